-- The law of what is left.
use Rattle.std.proofs.Common.{◌≡◌, ℕ, Bool, true, ◌↔◌, List, [], ◌∷◌, ◌++◌, length, Some, None, fold, Option, sym, refl, ap, ◌∙◌, subst, inl, inr, append-nil, Bor}
use mathlib.Core.List.{Memᴰ}
use Rattle.std.specs.List.{flat_map}
use Rattle.std.specs.Option.{option_map}
use Rattle.std.specs.Slice.{IsGetResult}
use Rattle.std.proofs.lemmas.Option.{slice_get-get_or, slice_get_past}
use Rattle.algebra.specs.declared.literal.Literal.{Literal}
use Rattle.algebra.specs.declared.marks.Marks.{Marks}
use Rattle.algebra.specs.declared.expr.Atom.TheVariants.{Lit, Yes, No}
use Rattle.algebra.specs.declared.expr.Head.TheVariants.{Alt, All, Seq}
use Rattle.algebra.specs.declared.expr.Expr.{Expr}
use Rattle.algebra.specs.declared.expr.Expr.TheVariants.{Leaf, Binary'}
use Rattle.algebra.specs.Literals.{Once, IsTrace}
use Rattle.algebra.specs.Expressions.{leaves, Meets}
use Rattle.algebra.specs.Left.{fulfilled, fresh_all, applied_all}
use Rattle.algebra.specs.Laws.{LeftOfOne, LeftOfRules}
use Rattle.algebra.specs.Rules.{NumberedOn, RuleAt}
use Rattle.algebra.proofs.Members.{once_counting, mem_get_or}
use Rattle.algebra.proofs.Trees.{Tree, MeetsT, done_t, apply_t, nil_done, done_meets, left_to, left_from}
use Rattle.algebra.proofs.Views.{tree, done_view, view_fresh_all, view_all}

-- what an expression's tree meets is what the expression meets
tree_to : (x : Expr) (w : List Literal) → MeetsT (tree x) w → Meets x w
tree_to (Leaf (Lit l) i) w h = h
tree_to (Leaf Yes i) w h = h
tree_to (Leaf No i) w h = h
tree_to (Binary' Alt p x q y) w (inl h) = inl (tree_to x w h)
tree_to (Binary' Alt p x q y) w (inr h) = inr (tree_to y w h)
tree_to (Binary' All p x q y) w (h, k) = (tree_to x w h, tree_to y w k)
tree_to (Binary' Seq p x q y) w (u, v, e, h, k) = (u, v, e, tree_to x u h, tree_to y v k)

tree_from : (x : Expr) (w : List Literal) → Meets x w → MeetsT (tree x) w
tree_from (Leaf (Lit l) i) w h = h
tree_from (Leaf Yes i) w h = h
tree_from (Leaf No i) w h = h
tree_from (Binary' Alt p x q y) w (inl h) = inl (tree_from x w h)
tree_from (Binary' Alt p x q y) w (inr h) = inr (tree_from y w h)
tree_from (Binary' All p x q y) w (h, k) = (tree_from x w h, tree_from y w k)
tree_from (Binary' Seq p x q y) w (u, v, e, h, k) = (u, v, e, tree_from x u h, tree_from y v k)

folded_++ : {X Y : Type 0} (f : Y → X → Y) (y : Y) (u v : List X) → fold f y (u ++ v) ≡ fold f (fold f y u) v
folded_++ f y [] v = refl
folded_++ f y (k ∷ u) v = folded_++ f (f y k) u v

-- on trees, over a whole trace
tree_law : (t : Tree) (w : List Literal) → IsTrace w → (done_t (fold apply_t t w) ≡ true) ↔ MeetsT t w
tree_law t w r = (
  λ d. subst (MeetsT t) (append-nil w) (left_from w [] t (done_meets (fold apply_t t w) d [])),
  λ h. nil_done (fold apply_t t w) (left_to w [] t (subst IsTrace (sym (append-nil w)) r) (subst (MeetsT t) (sym (append-nil w)) h)),
)

pub left_of_rules : LeftOfRules
left_of_rules xs o x h u v r =
    let m = fold (applied_all xs) (fold (applied_all xs) (fresh_all xs) u) v in
    let e : fulfilled x m ≡ done_t (fold apply_t (tree x) (u ++ v)) =
    done_view x m ∙ ap done_t
    (view_all xs o x h v (fold (applied_all xs) (fresh_all xs) u)
    ∙ ap (λ t. fold apply_t t v) (view_all xs o x h u (fresh_all xs) ∙ ap (λ t. fold apply_t t u) (view_fresh_all xs o x h))
    ∙ sym (folded_++ apply_t (tree x) u v)) in
    let l = tree_law (tree x) (u ++ v) r in
    (λ d. tree_to x (u ++ v) (l.0 (sym e ∙ d)), λ g. e ∙ l.1 (tree_from x (u ++ v) g))

-- one expression is a list of one rule
pub left_of_one : LeftOfOne
left_of_one x o u v r = left_of_rules (x ∷ []) (subst Once (sym (append-nil (leaves x))) o) x (Memᴰ.head refl) u v r

pub numbered_once : (xs : List Expr) → NumberedOn xs → Once (flat_map leaves xs)
numbered_once xs n = subst Once (sym n) (once_counting 0 (length (flat_map leaves xs)))

-- a rule of a list, after a trace
pub judged : (xs : List Expr) (x : Expr) (m : Marks) (w : List Literal) (b : Bool) → NumberedOn xs → IsTrace w → m ≡ fold (applied_all xs) (fresh_all xs) w → b ≡ fulfilled x m → Memᴰ x xs → (b ≡ true) ↔ Meets x w
judged xs x m w b n r is e h =
    subst (λ a. (a ≡ true) ↔ Meets x w) (sym (e ∙ ap (fulfilled x) is)) (left_of_rules xs (numbered_once xs n) x h [] w r)

-- the rule of a number, as a slice hands it out
pub rule_at : (xs : List Expr) (k : ℕ) (r : Option (Bor Expr)) → IsGetResult xs k k r → RuleAt xs k (option_map (λ x. x.now) r)
rule_at xs k None h = slice_get_past xs k h.3
rule_at xs k (Some x) h =
    let is = h.3.1 x.now in
    (slice_get-get_or xs k x.now h.3.0 ∙ ap Some (sym is), subst (λ y. Memᴰ y xs) (sym is) (mem_get_or xs k x.now h.3.0))
