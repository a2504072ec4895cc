-- Drafts with one item more.
use Rattle.std.proofs.Common.{◌≡◌, ℕ, zero, suc, ◌+◌, ◌<◌, ◌≤◌, Bool, true, false, cond, ◌⊎◌, List, [], ◌∷◌, ◌++◌, length, Some, None, Option, sym, refl, ap, ◌∙◌, subst, inl, inr, ⊎_elim, append_assoc, append-nil, arith, length-append}
use mathlib.Core.Bool.{false≢true}
use mathlib.Core.List.Memᴰ
use mathlib.Core.List.{Memᴰ}
use Rattle.std.specs.List.{slice_get, flat_map}
use Rattle.std.specs.Str.{bytes_eq}
use Rattle.std.proofs.lemmas.Slice.Eq.{bytes_eq-Decides}
use Rattle.std.proofs.lemmas.List.{map-append, flat_map_more}
use Rattle.forms.specs.declared.line.Section.TheVariants.{Events, Rules}
use Rattle.forms.specs.Forms.{Form}
use Rattle.forms.specs.Items.{Declared, event, rule, FineItem, render, Comes}
use Rattle.accept.specs.declared.names.EventNames.{EventNames}
use Rattle.accept.specs.Naming.{entered}
use Rattle.accept.specs.Drafts.{IsName, leaves, Names, Draft, names, leaf_count, event_line, rule_line, rendered, section_of, section, Declares, Apart, Keeps}
use Rattle.accept.specs.Tallies.{known}
use Rattle.accept.specs.Drafts.{Found}
use Rattle.accept.specs.Steps.{Knows, grown}
use Rattle.accept.proofs.Entries.{entered_few}

joined_last : {X A : Type 0} (f : X → List A) (xs : List X) (x : X) → flat_map f (xs ++ (x ∷ [])) ≡ flat_map f xs ++ f x
joined_last f xs x = sym (flat_map_more f [] xs x)

-- events come before rules
comes_event : (xs : List Declared) (fs : List Form) (x : Declared) → (0 < length fs → 0 < length xs) → Comes (section_of xs fs) (event x) → fs ≡ []
comes_event [] [] x first c = refl
comes_event [] (f ∷ fs) x first c = absurd (let q = first (omega arith) in omega arith)
comes_event (y ∷ xs) [] x first c = refl
comes_event (y ∷ xs) (f ∷ fs) x first c = absurd c

comes_rule : (xs : List Declared) (fs : List Form) (f : Form) → Comes (section_of xs fs) (rule f) → 0 < length xs
comes_rule [] fs f c = absurd c
comes_rule (y ∷ xs) [] f c = omega arith
comes_rule (y ∷ xs) (g ∷ fs) f c = omega arith

section_event : (xs : List Declared) (fs : List Form) (x : Declared) → fs ≡ [] → Events ≡ section_of (xs ++ (x ∷ [])) fs
section_event [] fs x e = ap (section_of (x ∷ [])) (sym e)
section_event (y ∷ xs) fs x e = ap (section_of (y ∷ (xs ++ (x ∷ [])))) (sym e)

section_rule : (xs : List Declared) (fs : List Form) (f : Form) → 0 < length xs → Rules ≡ section_of xs (fs ++ (f ∷ []))
section_rule [] fs f h = absurd (omega arith)
section_rule (y ∷ xs) [] f h = refl
section_rule (y ∷ xs) (g ∷ fs) f h = refl

apart_more : (ns : List (List ℕ)) (n : List ℕ) → Apart ns → (Memᴰ n ns → ⊥) → Apart (ns ++ (n ∷ []))
apart_more [] n a out = ((λ m. Memᴰ.not-nil m), tt)
apart_more (m ∷ ns) n (not, a) out =
    ((λ k. ⊎_elim not (λ s. out (Memᴰ.head (sym (Memᴰ.eq_of_singleton s)))) (Memᴰ.append_cases ns k)), apart_more ns n a (λ k. out (Memᴰ.tail k)))

pub member_more : {X : Type 0} (xs : List X) (x y : X) → Memᴰ y (xs ++ (x ∷ [])) → Memᴰ y xs ⊎ (y ≡ x)
member_more xs x y m = ⊎_elim (λ k. inl k) (λ k. inr (Memᴰ.eq_of_singleton k)) (Memᴰ.append_cases xs m)

module _ (d : Draft) (k : Keeps d) where
  module _ (x : Declared) (c : Comes (section d) (event x)) where
    no_rules : d.rules ≡ []
    no_rules = comes_event d.declared d.rules x k.event_first c

    pub names_event : names (grown d (event x)) ≡ names d ++ (x.name ∷ [])
    names_event = map-append (λ y. y.name) d.declared (x ∷ [])

    pub section_event_is : Events ≡ section (grown d (event x))
    section_event_is = section_event d.declared d.rules x no_rules

    pub rendered_event : rendered (grown d (event x)) ≡ rendered d ++ (render (event x) ++ (10 ∷ []))
    rendered_event =
        ap (λ z. z ++ flat_map rule_line d.rules) (joined_last event_line d.declared x)
        ∙ ap (λ fs. (flat_map event_line d.declared ++ event_line x) ++ flat_map rule_line fs) no_rules
        ∙ append-nil (flat_map event_line d.declared ++ event_line x)
        ∙ ap (λ z. z ++ event_line x) (sym (append-nil (flat_map event_line d.declared)))
        ∙ ap (λ fs. (flat_map event_line d.declared ++ flat_map rule_line fs) ++ event_line x) (sym no_rules)

    none_in : (f : Form) → Memᴰ f d.rules → ⊥
    none_in f m = Memᴰ.not-nil (subst (Memᴰ f) no_rules m)

    pub keeps_event : IsName x.name → (Declares d x.name → ⊥) → length d.declared < 12 → Keeps (grown d (event x))
    keeps_event good new few =
        record {
          few_events = let q = length-append d.declared (x ∷ []) in omega arith;
          few_rules = k.few_rules;
          few_leaves = k.few_leaves;
          event_first = λ h. let q = length-append d.declared (x ∷ []) in omega arith;
          named = λ n m. ⊎_elim (k.named n) (λ e. subst IsName (sym e) good) (member_more (names d) x.name n (subst (Memᴰ n) names_event m));
          apart = subst Apart (sym names_event) (apart_more (names d) x.name k.apart new);
          shaped = λ f m. absurd (none_in f m);
          known = λ f m. absurd (none_in f m);
        }

  module _ (f : Form) (c : Comes (section d) (rule f)) where
    some_event : 0 < length d.declared
    some_event = comes_rule d.declared d.rules f c

    pub section_rule_is : Rules ≡ section (grown d (rule f))
    section_rule_is = section_rule d.declared d.rules f some_event

    pub leaves_rule : leaf_count (grown d (rule f)) ≡ leaf_count d + length (leaves f)
    leaves_rule = ap length (joined_last leaves d.rules f) ∙ length-append (flat_map leaves d.rules) (leaves f)

    pub rendered_rule : rendered (grown d (rule f)) ≡ rendered d ++ (render (rule f) ++ (10 ∷ []))
    rendered_rule =
        ap (λ z. flat_map event_line d.declared ++ z) (joined_last rule_line d.rules f)
        ∙ sym (append_assoc (flat_map event_line d.declared) (flat_map rule_line d.rules) (rule_line f))

    pub keeps_rule : FineItem (rule f) → ((n : List ℕ) → Names f n → Declares d n) → length d.rules < 16 → leaf_count d + length (leaves f) ≤ 64 → Keeps (grown d (rule f))
    keeps_rule fine all few light =
        record {
          few_events = k.few_events;
          few_rules = let q = length-append d.rules (f ∷ []) in omega arith;
          few_leaves = subst (λ n. n ≤ 64) (sym leaves_rule) light;
          event_first = λ h. some_event;
          named = k.named;
          apart = k.apart;
          shaped = λ g m. ⊎_elim (k.shaped g) (λ e. subst (λ z. FineItem (rule z)) (sym e) fine) (member_more d.rules f g m);
          known = λ g m n s. ⊎_elim (λ q. k.known g q n s) (λ e. all n (subst (λ z. Names z n) e s)) (member_more d.rules f g m);
        }

-- names in the map
nth_more : (ns : List (List ℕ)) (m n : List ℕ) (e : ℕ) → slice_get ns e ≡ Some n → slice_get (ns ++ (m ∷ [])) e ≡ Some n
nth_more [] m n e is = absurd (let z : ◌≡◌ {A = ℕ} 0 1 = cc in omega arith)
nth_more (k ∷ ns) m n zero is = is
nth_more (k ∷ ns) m n (suc e) is = nth_more ns m n e is

nth_last : (ns : List (List ℕ)) (m : List ℕ) → slice_get (ns ++ (m ∷ [])) (length ns) ≡ Some m
nth_last [] m = refl
nth_last (k ∷ ns) m = nth_last ns m

found_more : (ns : List (List ℕ)) (m n : List ℕ) (r : Option ℕ) → (n ≡ m → ⊥) → Found ns n r → Found (ns ++ (m ∷ [])) n r
found_more ns m n None ne out = λ k. ⊎_elim out ne (member_more ns m n k)
found_more ns m n (Some e) ne is = nth_more ns m n e is

module _ (s t : EventNames) (ns : List (List ℕ)) (m : List ℕ) (e : ℕ) (is : e ≡ length ns) (h : Knows s ns) where
  found_with : (n : List ℕ) (b : Bool) → bytes_eq m n ≡ b → Found (ns ++ (m ∷ [])) n (cond b (Some e) (known s n))
  found_with n true same =
      let q = (bytes_eq-Decides m n).0 same in
      subst (λ z. slice_get (ns ++ (m ∷ [])) e ≡ Some z) q (ap (slice_get (ns ++ (m ∷ []))) is ∙ nth_last ns m)
  found_with n false other =
      found_more ns m n (known s n) (λ q. false≢true (sym other ∙ (bytes_eq-Decides m n).1 (sym q))) (h.found n)

  pub knows_more : entered t ≡ entered s + 1 → ((n : List ℕ) → known t n ≡ cond (bytes_eq m n) (Some e) (known s n)) → Knows t (ns ++ (m ∷ []))
  knows_more many all =
      record {
        many = many ∙ ap (λ k. k + 1) h.many ∙ sym (length-append ns (m ∷ []));
        found = λ n. subst (Found (ns ++ (m ∷ [])) n) (sym (all n)) (found_with n (bytes_eq m n) refl);
      }

  pub knows_room : entered t ≡ entered s + 1 → length ns < 12
  knows_room many = let a = entered_few t in let b = h.many in omega arith

-- what the map says of a name
pub found_none : (ns : List (List ℕ)) (n : List ℕ) (r : Option ℕ) → Found ns n r → r ≡ None → Memᴰ n ns → ⊥
found_none ns n None f e m = f m
found_none ns n (Some k) f e m = let z : ◌≡◌ {A = ℕ} 0 1 = cc in omega arith

pub nth_member : (ns : List (List ℕ)) (n : List ℕ) (e : ℕ) → slice_get ns e ≡ Some n → Memᴰ n ns
nth_member [] n e is = absurd (let z : ◌≡◌ {A = ℕ} 0 1 = cc in omega arith)
nth_member (k ∷ ns) n zero is = Memᴰ.head (sym (some_same is))
  where
    some_same : {x y : List ℕ} → Some x ≡ Some y → x ≡ y
    some_same q = cc
nth_member (k ∷ ns) n (suc e) is = Memᴰ.tail (nth_member ns n e is)

pub found_some : (ns : List (List ℕ)) (n : List ℕ) (r : Option ℕ) → Found ns n r → (r ≡ None → ⊥) → Memᴰ n ns
found_some ns n None f e = absurd (e refl)
found_some ns n (Some k) f e = nth_member ns n k f
