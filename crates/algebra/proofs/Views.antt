-- An expression under marks, seen as a tree, and what the marks' operations do to that tree.
use Rattle.std.proofs.Common.{◌≡◌, ℕ, Bool, true, false, cond, not, ◌&&◌, ◌||◌, eqb, List, [], ◌∷◌, fold, sym, refl, ap, ◌∙◌, subst, ⊎_elim, arith}
use mathlib.Core.Bool.{false≢true}
use mathlib.Core.List.Memᴰ
use mathlib.Core.List.{Memᴰ}
use Rattle.std.specs.List.{flat_map}
use Rattle.std.proofs.lemmas.Bool.{cond_both, cond-true, cond-false}
use Rattle.algebra.specs.declared.literal.Literal.{Literal}
use Rattle.algebra.specs.declared.marks.Marks.{Marks}
use Rattle.algebra.specs.declared.expr.Atom.{Atom}
use Rattle.algebra.specs.declared.expr.Atom.TheVariants.{Lit, Yes, No}
use Rattle.algebra.specs.declared.expr.Head.TheVariants.{Alt, All, Seq}
use Rattle.algebra.specs.declared.expr.Expr.{Expr}
use Rattle.algebra.specs.declared.expr.Expr.TheVariants.{Leaf, Binary'}
use Rattle.algebra.specs.Literals.{event_of, same, Once}
use Rattle.algebra.specs.Marks.{has_bit, is_open, none, met_at, struck_at, union}
use Rattle.algebra.specs.Expressions.{leaves}
use Rattle.algebra.specs.Left.{fresh, fulfilled, strikes, gains, applied, fresh_all, applied_all}
use Rattle.algebra.proofs.Bits.{bit_or_lem, bit_none, bit_here, bit_other}
use Rattle.algebra.proofs.Members.{Out, parted}
use Rattle.algebra.proofs.Trees.{Tree, met, struck, wait, node, done_t, strike_t, apply_t}

-- whether a leaf is met, and whether it is struck
abbrev Two : Type 0
Two = Bool × Bool

abbrev look : Marks → ℕ → Two
look m i = (has_bit m.met i, has_bit m.struck i)

two : {a b c d : Bool} → a ≡ c → b ≡ d → ◌≡◌ {A = Two} (a, b) (c, d)
two {a} {b} {c} {d} e f = ap (λ x. (x, b)) e ∙ ap (λ x. (c, x)) f

abbrev or_two : Two → Two → Two
or_two p q = (p.0 || q.0, p.1 || q.1)

look_union : (m n : Marks) (j : ℕ) → look (union m n) j ≡ or_two (look m j) (look n j)
look_union m n j = two (bit_or_lem m.met n.met j) (bit_or_lem m.struck n.struck j)

-- a leaf without marks
abbrev Dark : Marks → ℕ → Type 0
Dark m j = look m j ≡ (false, false)

or_false : (b : Bool) → b || false ≡ b
or_false true = refl
or_false false = refl

look_left : (m n : Marks) (j : ℕ) → Dark n j → look (union m n) j ≡ look m j
look_left m n j d = look_union m n j ∙ ap (or_two (look m j)) d ∙ two (or_false _) (or_false _)

look_right : (m n : Marks) (j : ℕ) → Dark m j → look (union m n) j ≡ look n j
look_right m n j d = look_union m n j ∙ ap (λ p. or_two p (look n j)) d

dark_none : (j : ℕ) → Dark none j
dark_none j = two (bit_none j) (bit_none j)

dark_met : (i j : ℕ) → (i ≡ j → ⊥) → Dark (met_at i) j
dark_met i j n = two (bit_other i j n) (bit_none j)

dark_struck : (i j : ℕ) → (i ≡ j → ⊥) → Dark (struck_at i) j
dark_struck i j n = two (bit_none j) (bit_other i j n)

dark_union : (m n : Marks) (j : ℕ) → Dark m j → Dark n j → Dark (union m n) j
dark_union m n j d e = look_left m n j e ∙ d

dark_cond : (b : Bool) (m n : Marks) (j : ℕ) → Dark m j → Dark n j → Dark (cond b m n) j
dark_cond b m n j d e = cond_both b m n (λ z. Dark z j) (λ _. d) (λ _. e)

-- an expression marks its own leaves alone
other_leaf : (i j : ℕ) → Out j (i ∷ []) → i ≡ j → ⊥
other_leaf i j out e = out (Memᴰ.head (sym e))

fresh_dark : (x : Expr) (j : ℕ) → Out j (leaves x) → Dark (fresh x) j
fresh_dark (Leaf (Lit l) i) j out = dark_none j
fresh_dark (Leaf Yes i) j out = dark_met i.value j (other_leaf i.value j out)
fresh_dark (Leaf No i) j out = dark_struck i.value j (other_leaf i.value j out)
fresh_dark (Binary' h p x q y) j out =
    dark_union (fresh x) (fresh y) j (fresh_dark x j (λ k. out (Memᴰ.append_left (leaves y) k))) (fresh_dark y j (λ k. out (Memᴰ.append_right (leaves x) k)))

strikes_dark : (x : Expr) (e : ℕ) (m : Marks) (j : ℕ) → Out j (leaves x) → Dark (strikes x e m) j
strikes_dark (Leaf (Lit l) i) e m j out =
    dark_cond (is_open m i.value && eqb (event_of l) e) (struck_at i.value) none j (dark_struck i.value j (other_leaf i.value j out)) (dark_none j)
strikes_dark (Leaf Yes i) e m j out = dark_none j
strikes_dark (Leaf No i) e m j out = dark_none j
strikes_dark (Binary' h p x q y) e m j out =
    dark_union (strikes x e m) (strikes y e m) j (strikes_dark x e m j (λ k. out (Memᴰ.append_left (leaves y) k))) (strikes_dark y e m j (λ k. out (Memᴰ.append_right (leaves x) k)))

gains_dark : (x : Expr) (l : Literal) (m : Marks) (j : ℕ) → Out j (leaves x) → Dark (gains x l m) j
gains_dark (Leaf (Lit k) i) l m j out =
    dark_cond (is_open m i.value && same k l) (met_at i.value) (strikes (Leaf (Lit k) i) (event_of l) m) j (dark_met i.value j (other_leaf i.value j out)) (strikes_dark (Leaf (Lit k) i) (event_of l) m j out)
gains_dark (Leaf Yes i) l m j out = dark_none j
gains_dark (Leaf No i) l m j out = dark_none j
gains_dark (Binary' Alt p x q y) l m j out =
    dark_union (gains x l m) (gains y l m) j (gains_dark x l m j (λ k. out (Memᴰ.append_left (leaves y) k))) (gains_dark y l m j (λ k. out (Memᴰ.append_right (leaves x) k)))
gains_dark (Binary' All p x q y) l m j out =
    dark_union (gains x l m) (gains y l m) j (gains_dark x l m j (λ k. out (Memᴰ.append_left (leaves y) k))) (gains_dark y l m j (λ k. out (Memᴰ.append_right (leaves x) k)))
gains_dark (Binary' Seq p x q y) l m j out =
    let out' : Out j (leaves y) = λ k. out (Memᴰ.append_right (leaves x) k) in
    dark_union (gains x l m) (cond (fulfilled x m) (gains y l m) (strikes y (event_of l) m)) j (gains_dark x l m j (λ k. out (Memᴰ.append_left (leaves y) k)))
    (dark_cond (fulfilled x m) (gains y l m) (strikes y (event_of l) m) j (gains_dark y l m j out') (strikes_dark y (event_of l) m j out'))

-- a leaf under marks; `yes` and `no` without marks, which fresh marks exclude, count as struck
abbrev leaf_t : Bool → Bool → Atom → Tree
leaf_t true s a = met
leaf_t false true a = struck
leaf_t false false (Lit l) = wait l
leaf_t false false Yes = struck
leaf_t false false No = struck

abbrev pub view : Expr → Marks → Tree
view (Leaf a i) m = leaf_t (has_bit m.met i.value) (has_bit m.struck i.value) a
view (Binary' h p x q y) m = node h (view x m) (view y m)

node_eq : {h : _} {a b c d : Tree} → a ≡ c → b ≡ d → node h a b ≡ node h c d
node_eq e f = cc

-- marks that agree on the leaves of an expression
abbrev Agree : List ℕ → Marks → Marks → Type 0
Agree is m n = (j : ℕ) → Memᴰ j is → look m j ≡ look n j

view_same : (x : Expr) (m n : Marks) → Agree (leaves x) m n → view x m ≡ view x n
view_same (Leaf a i) m n ag = ap (λ p. leaf_t p.0 p.1 a) (ag i.value (Memᴰ.head refl))
view_same (Binary' h p x q y) m n ag =
    node_eq (view_same x m n (λ j k. ag j (Memᴰ.append_left (leaves y) k))) (view_same y m n (λ j k. ag j (Memᴰ.append_right (leaves x) k)))

leaf_done : (M S : Bool) (a : Atom) → M ≡ done_t (leaf_t M S a)
leaf_done true s a = refl
leaf_done false true a = refl
leaf_done false false (Lit l) = refl
leaf_done false false Yes = refl
leaf_done false false No = refl

pub done_view : (x : Expr) (m : Marks) → fulfilled x m ≡ done_t (view x m)
done_view (Leaf a i) m = leaf_done (has_bit m.met i.value) (has_bit m.struck i.value) a
done_view (Binary' Alt p x q y) m = let f = done_view x m in let g = done_view y m in cc
done_view (Binary' All p x q y) m = let f = done_view x m in let g = done_view y m in cc
done_view (Binary' Seq p x q y) m = let f = done_view x m in let g = done_view y m in cc

-- marks added to m by two parts: each part sees its own
module _ (x : Expr) (m s t : Marks) where
  view_first : ((j : ℕ) → Memᴰ j (leaves x) → Dark t j) → view x (union m (union s t)) ≡ view x (union m s)
  view_first d = view_same x (union m (union s t)) (union m s) (λ j k. look_union m (union s t) j ∙ ap (or_two (look m j)) (look_left s t j (d j k)) ∙ sym (look_union m s j))

  view_second : ((j : ℕ) → Memᴰ j (leaves x) → Dark s j) → view x (union m (union s t)) ≡ view x (union m t)
  view_second d = view_same x (union m (union s t)) (union m t) (λ j k. look_union m (union s t) j ∙ ap (or_two (look m j)) (look_right s t j (d j k)) ∙ sym (look_union m t j))

-- leaves without a literal stay
view_none : (x : Expr) (m : Marks) → view x (union m none) ≡ view x m
view_none x m = view_same x (union m none) m (λ j k. look_left m none j (dark_none j))

fixed_yes : (M S : Bool) (e : ℕ) → leaf_t M S Yes ≡ strike_t e (leaf_t M S Yes)
fixed_yes true S e = refl
fixed_yes false true e = refl
fixed_yes false false e = refl

fixed_no : (M S : Bool) (e : ℕ) → leaf_t M S No ≡ strike_t e (leaf_t M S No)
fixed_no true S e = refl
fixed_no false true e = refl
fixed_no false false e = refl

look_strike : (m : Marks) (i : ℕ) (b : Bool) → look (union m (cond b (struck_at i) none)) i ≡ (has_bit m.met i, has_bit m.struck i || b)
look_strike m i true = look_union m (struck_at i) i ∙ ap (or_two (look m i)) (two {c = false} {d = true} (bit_none i) (bit_here i)) ∙ two (or_false _) refl
look_strike m i false = look_left m none i (dark_none i) ∙ two refl (sym (or_false _))

leaf_strike : (M S E : Bool) (l : Literal) → leaf_t M (S || (not M && not S && E)) (Lit l) ≡ cond (not M && not S && E) struck (leaf_t M S (Lit l))
leaf_strike true S E l = refl
leaf_strike false true E l = refl
leaf_strike false false true l = refl
leaf_strike false false false l = refl

leaf_struck : (M S : Bool) (l : Literal) (e : ℕ) → cond (not M && not S && eqb (event_of l) e) struck (leaf_t M S (Lit l)) ≡ strike_t e (leaf_t M S (Lit l))
leaf_struck true S l e = refl
leaf_struck false true l e = refl
leaf_struck false false l e = refl

pub view_strikes : (x : Expr) (e : ℕ) (m : Marks) → Once (leaves x) → view x (union m (strikes x e m)) ≡ strike_t e (view x m)
view_strikes (Leaf (Lit l) i) e m o =
    let M = has_bit m.met i.value in
    let S = has_bit m.struck i.value in
    ap (λ p. leaf_t p.0 p.1 (Lit l)) (look_strike m i.value (is_open m i.value && eqb (event_of l) e))
    ∙ leaf_strike M S (eqb (event_of l) e) l ∙ leaf_struck M S l e
view_strikes (Leaf Yes i) e m o = view_none (Leaf Yes i) m ∙ fixed_yes (has_bit m.met i.value) (has_bit m.struck i.value) e
view_strikes (Leaf No i) e m o = view_none (Leaf No i) m ∙ fixed_no (has_bit m.met i.value) (has_bit m.struck i.value) e
view_strikes (Binary' h p x q y) e m o =
    let c = parted (leaves x) (leaves y) o in
    node_eq
    (view_first x m (strikes x e m) (strikes y e m) (λ j k. strikes_dark y e m j (c.across j k)) ∙ view_strikes x e m c.left)
    (view_second y m (strikes x e m) (strikes y e m) (λ j k. strikes_dark x e m j (λ k'. c.across j k' k)) ∙ view_strikes y e m c.right)

-- applying a literal
look_meet : (m : Marks) (i : ℕ) → look (union m (met_at i)) i ≡ (true, has_bit m.struck i)
look_meet m i =
    look_union m (met_at i) i ∙ ap (or_two (look m i)) (two {c = true} {d = false} (bit_here i) (bit_none i)) ∙ two (or_true _) (or_false _)
  where
    or_true : (b : Bool) → b || true ≡ true
    or_true true = refl
    or_true false = refl

leaf_met : (M S E : Bool) (l k : Literal) → (not M && not S && E) ≡ true → E ≡ same l k → met ≡ apply_t (leaf_t M S (Lit l)) k
leaf_met true S E l k h e = refl
leaf_met false true E l k h e = absurd (false≢true h)
leaf_met false false E l k h e = sym (cond-true (same l k) met (strike_t (event_of k) (wait l)) (sym e ∙ h))

leaf_unmet : (M S E : Bool) (l k : Literal) → (not M && not S && E) ≡ false → E ≡ same l k → strike_t (event_of k) (leaf_t M S (Lit l)) ≡ apply_t (leaf_t M S (Lit l)) k
leaf_unmet true S E l k h e = refl
leaf_unmet false true E l k h e = refl
leaf_unmet false false E l k h e = sym (cond-false (same l k) met (strike_t (event_of k) (wait l)) (sym e ∙ h))

fixed_applied : (M S : Bool) (k : Literal) → (a : Atom) → ((l : Literal) → a ≡ Lit l → ⊥) → leaf_t M S a ≡ apply_t (leaf_t M S a) k
fixed_applied true S k a n = refl
fixed_applied false true k a n = refl
fixed_applied false false k (Lit l) n = absurd (n l refl)
fixed_applied false false k Yes n = refl
fixed_applied false false k No n = refl

yes_no_literal : (l : Literal) → Yes ≡ Lit l → ⊥
yes_no_literal l e = let z : ◌≡◌ {A = ℕ} 0 1 = cc in omega arith

no_no_literal : (l : Literal) → No ≡ Lit l → ⊥
no_no_literal l e = let z : ◌≡◌ {A = ℕ} 0 1 = cc in omega arith

pub view_gains : (x : Expr) (k : Literal) (m : Marks) → Once (leaves x) → view x (union m (gains x k m)) ≡ apply_t (view x m) k
view_gains (Leaf (Lit l) i) k m o =
    let M = has_bit m.met i.value in
    let S = has_bit m.struck i.value in
    cond_both (is_open m i.value && same l k) (met_at i.value) (strikes (Leaf (Lit l) i) (event_of k) m)
    (λ z. view (Leaf (Lit l) i) (union m z) ≡ apply_t (leaf_t M S (Lit l)) k)
    (λ h. ap (λ p. leaf_t p.0 p.1 (Lit l)) (look_meet m i.value) ∙ leaf_met M S (same l k) l k h refl)
    (λ h. view_strikes (Leaf (Lit l) i) (event_of k) m o ∙ leaf_unmet M S (same l k) l k h refl)
view_gains (Leaf Yes i) k m o = view_none (Leaf Yes i) m ∙ fixed_applied (has_bit m.met i.value) (has_bit m.struck i.value) k Yes yes_no_literal
view_gains (Leaf No i) k m o = view_none (Leaf No i) m ∙ fixed_applied (has_bit m.met i.value) (has_bit m.struck i.value) k No no_no_literal
view_gains (Binary' Alt p x q y) k m o =
    let c = parted (leaves x) (leaves y) o in
    node_eq
    (view_first x m (gains x k m) (gains y k m) (λ j h. gains_dark y k m j (c.across j h)) ∙ view_gains x k m c.left)
    (view_second y m (gains x k m) (gains y k m) (λ j h. gains_dark x k m j (λ h'. c.across j h' h)) ∙ view_gains y k m c.right)
view_gains (Binary' All p x q y) k m o =
    let c = parted (leaves x) (leaves y) o in
    node_eq
    (view_first x m (gains x k m) (gains y k m) (λ j h. gains_dark y k m j (c.across j h)) ∙ view_gains x k m c.left)
    (view_second y m (gains x k m) (gains y k m) (λ j h. gains_dark x k m j (λ h'. c.across j h' h)) ∙ view_gains y k m c.right)
view_gains (Binary' Seq p x q y) k m o =
    let c = parted (leaves x) (leaves y) o in
    let g = gains y k m in
    let s = strikes y (event_of k) m in
    node_eq
    (view_first x m (gains x k m) (cond (fulfilled x m) g s)
    (λ j h. dark_cond (fulfilled x m) g s j (gains_dark y k m j (c.across j h)) (strikes_dark y (event_of k) m j (c.across j h)))
    ∙ view_gains x k m c.left)
    (view_second y m (gains x k m) (cond (fulfilled x m) g s) (λ j h. gains_dark x k m j (λ h'. c.across j h' h))
    ∙ cond_both (fulfilled x m) g s (λ z. view y (union m z) ≡ cond (done_t (view x m)) (apply_t (view y m) k) (strike_t (event_of k) (view y m)))
    (λ d. view_gains y k m c.right ∙ sym (cond-true (done_t (view x m)) _ _ (sym (done_view x m) ∙ d)))
    (λ d. view_strikes y (event_of k) m c.right ∙ sym (cond-false (done_t (view x m)) _ _ (sym (done_view x m) ∙ d))))

-- an expression before any literal
abbrev pub tree : Expr → Tree
tree (Leaf (Lit l) i) = wait l
tree (Leaf Yes i) = met
tree (Leaf No i) = struck
tree (Binary' h p x q y) = node h (tree x) (tree y)

pub view_fresh : (x : Expr) → Once (leaves x) → view x (fresh x) ≡ tree x
view_fresh (Leaf (Lit l) i) o = ap (λ p. leaf_t p.0 p.1 (Lit l)) (dark_none i.value)
view_fresh (Leaf Yes i) o = ap (λ b. leaf_t b (has_bit 0 i.value) Yes) (bit_here i.value)
view_fresh (Leaf No i) o = ap (λ p. leaf_t p.0 p.1 No) (two {c = false} {d = true} (bit_none i.value) (bit_here i.value))
view_fresh (Binary' h p x q y) o =
    let c = parted (leaves x) (leaves y) o in
    node_eq
    (view_same x (union (fresh x) (fresh y)) (fresh x) (λ j k. look_left (fresh x) (fresh y) j (fresh_dark y j (c.across j k))) ∙ view_fresh x c.left)
    (view_same y (union (fresh x) (fresh y)) (fresh y) (λ j k. look_right (fresh x) (fresh y) j (fresh_dark x j (λ k'. c.across j k' k))) ∙ view_fresh y c.right)

-- marks that each rule of a list adds on its own leaves: every rule sees its own alone
module _ (added : Expr → Marks) (own : (x : Expr) (j : ℕ) → Out j (leaves x) → Dark (added x) j) where
  abbrev sum : Marks → List Expr → Marks
  sum m xs = fold (λ s x. union s (added x)) m xs

  sum_out : (xs : List Expr) (m : Marks) (j : ℕ) → Out j (flat_map leaves xs) → look (sum m xs) j ≡ look m j
  sum_out [] m j out = refl
  sum_out (x ∷ xs) m j out =
      sum_out xs (union m (added x)) j (λ k. out (Memᴰ.append_right (leaves x) k))
      ∙ look_left m (added x) j (own x j (λ k. out (Memᴰ.append_left (flat_map leaves xs) k)))

  mem_joined : (x : Expr) (xs : List Expr) (j : ℕ) → Memᴰ x xs → Memᴰ j (leaves x) → Memᴰ j (flat_map leaves xs)
  mem_joined x [] j h k = absurd (Memᴰ.not-nil h)
  mem_joined x (y ∷ ys) j h k =
      ⊎_elim (λ e. Memᴰ.append_left (flat_map leaves ys) (subst (λ z. Memᴰ j (leaves z)) e k)) (λ h'. Memᴰ.append_right (leaves y) (mem_joined x ys j h' k)) (Memᴰ.cases_cons h)

  pub sum_own : (xs : List Expr) (m : Marks) → Once (flat_map leaves xs) → (x : Expr) → Memᴰ x xs → Agree (leaves x) (sum m xs) (union m (added x))
  sum_own [] m o x h j k = absurd (Memᴰ.not-nil h)
  sum_own (y ∷ ys) m o x h j k =
      let c = parted (leaves y) (flat_map leaves ys) o in
      ⊎_elim
      (λ e. sum_out ys (union m (added y)) j (c.across j (subst (λ z. Memᴰ j (leaves z)) e k)) ∙ ap (λ z. look (union m (added z)) j) (sym e))
      (λ h'. sum_own ys (union m (added y)) c.right x h' j k
      ∙ look_union (union m (added y)) (added x) j
      ∙ ap (λ p. or_two p (look (added x) j)) (look_left m (added y) j (own y j (λ k'. c.across j k' (mem_joined x ys j h' k))))
      ∙ sym (look_union m (added x) j))
      (Memᴰ.cases_cons h)

once_of : (xs : List Expr) (x : Expr) → Once (flat_map leaves xs) → Memᴰ x xs → Once (leaves x)
once_of [] x o h = absurd (Memᴰ.not-nil h)
once_of (y ∷ ys) x o h =
    let c = parted (leaves y) (flat_map leaves ys) o in
    ⊎_elim (λ e. subst (λ z. Once (leaves z)) (sym e) c.left) (λ h'. once_of ys x c.right h') (Memᴰ.cases_cons h)

module _ (xs : List Expr) (o : Once (flat_map leaves xs)) (x : Expr) (h : Memᴰ x xs) where
  pub view_fresh_all : view x (fresh_all xs) ≡ tree x
  view_fresh_all =
      view_same x (fresh_all xs) (fresh x) (λ j k. sum_own fresh fresh_dark xs none o x h j k ∙ look_right none (fresh x) j (dark_none j))
      ∙ view_fresh x (once_of xs x o h)

  pub view_applied : (m : Marks) (l : Literal) → view x (applied_all xs m l) ≡ apply_t (view x m) l
  view_applied m l =
      view_same x (applied_all xs m l) (applied x m l) (sum_own (λ y. gains y l m) (λ y. gains_dark y l m) xs m o x h)
      ∙ view_gains x l m (once_of xs x o h)

  pub view_all : (w : List Literal) (m : Marks) → view x (fold (applied_all xs) m w) ≡ fold apply_t (view x m) w
  view_all [] m = refl
  view_all (l ∷ w) m = view_all w (applied_all xs m l) ∙ ap (λ t. fold apply_t t w) (view_applied m l)
