-- Names as keys of a map. Assumes nothing.
--     same_name a b             two names are the same bytes
--     mixed h b                 one round of the hash FNV-1a, over the byte b
--     hash_of bs, name_hash a   the hash of some bytes; of a name
--     name_laws                 sameness of names is an equivalence, and same names share their hash
use Rattle.std.specs.Prelude.{◌≡◌, ℕ, ◌*◌, ◌%◌, ◌^◌, Bool, true, List, fold, bit_xor, refl}
use Rattle.std.proofs.Common.{sym, ap, ◌∙◌}
use Rattle.std.specs.Str.{bytes_eq}
use Rattle.std.proofs.lemmas.Slice.Eq.{bytes_eq-Decides}
use Rattle.slots.specs.Keys.{Laws}
use Rattle.accept.specs.declared.key.NameKey.{NameKey}

abbrev pub same_name : NameKey → NameKey → Bool
same_name a b = bytes_eq a.bytes.now b.bytes.now

abbrev pub mixed : ℕ → ℕ → ℕ
mixed h b = (bit_xor h b * 0x100_0000_01b3) % 2 ^ 64

unfoldable pub hash_of : List ℕ → ℕ
hash_of bs = fold mixed 0xcbf2_9ce4_8422_2325 bs

abbrev pub name_hash : NameKey → ℕ
name_hash a = hash_of a.bytes.now

shared : (x y : NameKey) → same_name x y ≡ true → name_hash x ≡ name_hash y
shared x y h = ap hash_of ((bytes_eq-Decides x.bytes.now y.bytes.now).0 h)

pub name_laws : Laws same_name name_hash
name_laws = record {
  reflexive = λ x. (bytes_eq-Decides x.bytes.now x.bytes.now).1 refl;
  symmetric = λ x y h. (bytes_eq-Decides y.bytes.now x.bytes.now).1 (sym ((bytes_eq-Decides x.bytes.now y.bytes.now).0 h));
  transitive = λ x y z h k.
      (bytes_eq-Decides x.bytes.now z.bytes.now).1 ((bytes_eq-Decides x.bytes.now y.bytes.now).0 h ∙ (bytes_eq-Decides y.bytes.now z.bytes.now).0 k);
  shared = shared;
}
