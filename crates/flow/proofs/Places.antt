-- The place of a name among the names of events.
use Rattle.std.proofs.Common.{◌≡◌, ℕ, suc, ◌+◌, Bool, true, false, cond, List, [], ◌∷◌, Some, None, Option, sym, refl, ap, ◌∙◌, subst, ⊎_elim, arith, MatchOption}
use mathlib.Core.Bool.{false≢true}
use mathlib.Core.List.Memᴰ
use mathlib.Core.List.{Memᴰ}
use Rattle.std.specs.List.{slice_get, position, position_from}
use Rattle.std.specs.Str.{bytes_eq}
use Rattle.std.proofs.lemmas.Slice.Eq.{bytes_eq-Decides}
use Rattle.std.proofs.lemmas.Iterator.Adapters.{position_from-zero}
use Rattle.accept.specs.Drafts.{Found}
use Rattle.flow.specs.declared.event.NamedEvent.{NamedEvent}
use Rattle.flow.specs.declared.flow.Flow.{Flow}
use Rattle.flow.specs.Events.{name_of, names_in}
use Rattle.flow.specs.Of.{names_of}

-- the place of a name among the events', counted from some number on
module _ (n : List ℕ) where
  abbrev Told : ℕ → List NamedEvent → Option ℕ → Type 0
  Told i es r = MatchOption r (Memᴰ n (names_in es) → ⊥) (λ k. (j : ℕ) × (k ≡ i + j) × (slice_get (names_in es) j ≡ Some n))

  first : (i : ℕ) (x : NamedEvent) (es : List NamedEvent) (b : Bool) → bytes_eq (name_of x) n ≡ b → (r : Option ℕ) → Told (i + 1) es r → Told i (x ∷ es) (cond b (Some i) r)
  first i x es true e r t = (0, omega arith, ap Some ((bytes_eq-Decides (name_of x) n).0 e))
  first i x es false e None out = λ m. ⊎_elim (λ q. false≢true (sym e ∙ (bytes_eq-Decides (name_of x) n).1 (sym q))) out (Memᴰ.cases_cons m)
  first i x es false e (Some k) (j, is, at) = (suc j, omega arith, at)

  told : (i : ℕ) (es : List NamedEvent) → Told i es (position_from (λ x. bytes_eq (name_of x) n) i es)
  told i [] = λ m. Memᴰ.not-nil m
  told i (x ∷ es) = first i x es (bytes_eq (name_of x) n) refl (position_from (λ y. bytes_eq (name_of y) n) (i + 1) es) (told (i + 1) es)

  counted : (es : List NamedEvent) (r : Option ℕ) → Told 0 es r → Found (names_in es) n r
  counted es None out = out
  counted es (Some k) (j, is, at) = let same : j ≡ k = omega arith in subst (λ i. slice_get (names_in es) i ≡ Some n) same at

  pub found_at : (es : List NamedEvent) → Found (names_in es) n (position (λ x. bytes_eq (name_of x) n) es)
  found_at es = subst (Found (names_in es) n) (sym (position_from-zero (λ x. bytes_eq (name_of x) n) es)) (counted es (position_from (λ x. bytes_eq (name_of x) n) 0 es) (told 0 es))

  pub found_when : (f : Flow) (r : Option ℕ) → r ≡ position (λ x. bytes_eq (name_of x) n) f.events.items → Found (names_of f) n r
  found_when f r is = subst (Found (names_of f) n) (sym is) (found_at f.events.items)
