-- What the byte reader answers at a place of a text. Assumes nothing.
--     EndOfRun bs a e      from place a on, e is the first place whose byte does not stand in names, or the end
--     NameAt bs a r        r is the name that stands at place a, and where it ends; absent if none does
--     InnerAt bs a r       r is the word other than a closing bracket that stands at place a; absent if none does
--     NextAt tight bs a r  r is the word that stands at place a, after its gap; absent if none does
use Rattle.std.specs.Prelude.{◌≡◌, ℕ, ◌<◌, ◌≤◌, Bool, true, false, List, ◌++◌, length, drop, Some, None, Option, ◌≢◌, slice_index}
use Rattle.text.specs.declared.name.NameRun.{NameRun}
use Rattle.text.specs.declared.word.Next.{Next}
use Rattle.text.specs.Names.{name_byte, Run}
use Rattle.text.specs.Words.{Token, token_of, spelt, IsToken, Broken, Ends, Stands, Inner}

abbrev pub EndOfRun : List ℕ → ℕ → ℕ → Type 0
EndOfRun bs a e =
    (a ≤ e) × (e ≤ length bs) × ((k : ℕ) → a ≤ k → k < e → name_byte (slice_index bs k) ≡ true) × (e < length bs → name_byte (slice_index bs e) ≡ false)

abbrev pub NameAt : List ℕ → ℕ → Option (NameRun × ℕ) → Type 0
NameAt bs a None = (n rest : List ℕ) → Run n → drop a bs ≢ n ++ rest
NameAt bs a (Some (n, e)) = (a < e) × (e ≤ length bs) × (drop a bs ≡ n.bytes.now ++ drop e bs) × Broken (drop e bs)

abbrev pub InnerAt : List ℕ → ℕ → Option Next → Type 0
InnerAt bs a None = (t : Token) (rest : List ℕ) → Inner t → IsToken t → drop a bs ≡ spelt t ++ rest → Ends t rest → ⊥
InnerAt bs a (Some x) =
    (a < x.end) × (x.end ≤ length bs) × Inner (token_of x.word) × IsToken (token_of x.word)
    × (drop a bs ≡ spelt (token_of x.word) ++ drop x.end bs) × Ends (token_of x.word) (drop x.end bs)

abbrev pub NextAt : Bool → List ℕ → ℕ → Option Next → Type 0
NextAt tight bs a None = (t : Token) (rest : List ℕ) → Stands tight (drop a bs) t rest → ⊥
NextAt tight bs a (Some x) = (a < x.end) × (x.end ≤ length bs) × Stands tight (drop a bs) (token_of x.word) (drop x.end bs)
