-- Flows with one event or one rule more.
use Rattle.std.proofs.Common.{◌≡◌, ℕ, ◌<◌, ◌≤◌, Bool, true, false, cond, ◌⊎◌, List, [], ◌∷◌, ◌++◌, length, Ok, Err, Result, sym, subst, inl, inr, ⊎_elim, arith, length-append}
use mathlib.Core.List.Memᴰ
use mathlib.Core.List.{Memᴰ}
use Rattle.std.specs.List.{flat_map, AllByRecursion, IsDistinct}
use Rattle.std.specs.Str.{bytes_eq}
use Rattle.std.proofs.lemmas.Slice.Eq.{bytes_eq-Decides}
use Rattle.std.proofs.lemmas.List.{map-append, flat_map_more}
use Rattle.std.proofs.lemmas.Bool.{cases_Bool}
use Rattle.std.proofs.lemmas.Map.Keys.{IsDistinct-head, IsDistinct-tail, IsDistinct-cons}
use Rattle.algebra.specs.declared.expr.Expr.{Expr}
use Rattle.algebra.specs.declared.rules.RulesError.{RulesError}
use Rattle.algebra.specs.declared.rules.RulesError.TheVariants.{Misnumbered, Memory}
use Rattle.algebra.specs.Rules.{Added}
use Rattle.algebra.specs.Expressions.{events_in}
use Rattle.flow.specs.declared.event.NamedEvent.{NamedEvent}
use Rattle.flow.specs.Events.{name_of, names_in, Distinct, Within}

not_same : (x n : List ℕ) → (x ≡ n → ⊥) → bytes_eq x n ≡ false
not_same x n ne = elim (cases_Bool (bytes_eq x n)) [ inl e ↦ absurd (ne ((bytes_eq-Decides x n).0 e)) | inr e ↦ e ]

pub distinct_none : Distinct []
unfolding IsDistinct
distinct_none = tt

pass_more : (p : List ℕ → Bool) (xs : List (List ℕ)) (n : List ℕ) → AllByRecursion (λ x. p x ≡ false) xs → p n ≡ false → AllByRecursion (λ x. p x ≡ false) (xs ++ (n ∷ []))
pass_more p [] n all here = (here, tt)
pass_more p (x ∷ xs) n all here = (all.0, pass_more p xs n all.1 here)

distinct_more : (ns : List (List ℕ)) (n : List ℕ) → Distinct ns → (Memᴰ n ns → ⊥) → Distinct (ns ++ (n ∷ []))
distinct_more [] n d out = IsDistinct-cons bytes_eq n [] tt d
distinct_more (x ∷ ns) n d out =
    IsDistinct-cons bytes_eq x (ns ++ (n ∷ []))
    (pass_more (bytes_eq x) ns n (IsDistinct-head bytes_eq x ns d) (not_same x n (λ e. out (Memᴰ.head (sym e)))))
    (distinct_more ns n (IsDistinct-tail bytes_eq x ns d) (λ m. out (Memᴰ.tail m)))

-- the events after a push, which may fail
module _ (es : List NamedEvent) (x : NamedEvent) (few : length es < 12) (apart : Distinct (names_in es)) (new : Memᴰ (name_of x) (names_in es) → ⊥) where
  pub events_kept : (b : Bool) → (length (cond b (es ++ (x ∷ [])) es) ≤ 12) × Distinct (names_in (cond b (es ++ (x ∷ [])) es)) × (length es ≤ length (cond b (es ++ (x ∷ [])) es))
  events_kept true =
      let q = length-append es (x ∷ []) in
      (omega arith, subst Distinct (sym (map-append name_of es (x ∷ []))) (distinct_more (names_in es) (name_of x) apart new), omega arith)
  events_kept false = (omega arith, apart, omega arith)

within_more : (n : ℕ) (xs : List Expr) (x : Expr) → Within n xs → ((e : ℕ) → Memᴰ e (events_in x) → e < n) → Within n (xs ++ (x ∷ []))
within_more n xs x all here e m =
    ⊎_elim (all e) (here e) (Memᴰ.append_cases (flat_map events_in xs) (subst (Memᴰ e) (sym (flat_map_more events_in [] xs x)) m))

-- the rules after a push, which may fail
pub rules_kept : (n : ℕ) (xs ys : List Expr) (x : Expr) → length xs < 16 → Within n xs → ((e : ℕ) → Memᴰ e (events_in x) → e < n) → (ys ≡ xs ++ (x ∷ [])) ⊎ (ys ≡ xs) → (length ys ≤ 16) × Within n ys
rules_kept n xs ys x few all here (inl is) = (subst (λ z. length z ≤ 16) (sym is) (let q = length-append xs (x ∷ []) in omega arith), subst (Within n) (sym is) (within_more n xs x all here))
rules_kept n xs ys x few all here (inr is) = (subst (λ z. length z ≤ 16) (sym is) (omega arith), subst (Within n) (sym is) all)

pub added_cases : (xs ys : List Expr) (x : Expr) (r : Result (Unit {0}) RulesError) → Added xs x ys r → (ys ≡ xs ++ (x ∷ [])) ⊎ (ys ≡ xs)
added_cases xs ys x (Ok done) h = inl h.0
added_cases xs ys x (Err (Misnumbered y)) h = inr h.0
added_cases xs ys x (Err (Memory y)) h = inr h.0
