-- What is left of expressions as literals are applied: the marks on their leaves. Assumes nothing.
--     fresh x              the marks of x before any literal: `yes` is met, `no` is struck
--     fulfilled x m        x is fulfilled under the marks m
--     strikes x e m        each leaf of the event e in x that is open in m, under either sign, as struck
--     gains x l m          the leaves of x that the literal l meets and those that it strikes, where m are the marks before it
--     applied x m l        the marks m after l is applied to x
--     fresh_all xs         the marks of a list of rules before any literal
--     applied_all xs m l   the marks m after l is applied to each of the rules xs; each reads m
use Rattle.std.specs.Prelude.{ℕ, Bool, cond, ◌&&◌, ◌||◌, List, fold, ◌==◌}
use Rattle.algebra.specs.declared.literal.Literal.{Literal}
use Rattle.algebra.specs.declared.marks.Marks.{Marks}
use Rattle.algebra.specs.declared.expr.Atom.TheVariants.{Lit, Yes, No}
use Rattle.algebra.specs.declared.expr.Head.TheVariants.{Alt, All, Seq}
use Rattle.algebra.specs.declared.expr.Expr.{Expr}
use Rattle.algebra.specs.declared.expr.Expr.TheVariants.{Leaf, Binary'}
use Rattle.algebra.specs.Literals.{event_of, same}
use Rattle.algebra.specs.Marks.{is_met, is_open, none, met_at, struck_at, union}

abbrev pub fresh : Expr → Marks
fresh (Leaf (Lit l) i) = none
fresh (Leaf Yes i) = met_at i.value
fresh (Leaf No i) = struck_at i.value
fresh (Binary' h p x q y) = union (fresh x) (fresh y)

abbrev pub fulfilled : Expr → Marks → Bool
fulfilled (Leaf a i) m = is_met m i.value
fulfilled (Binary' Alt p x q y) m = fulfilled x m || fulfilled y m
fulfilled (Binary' All p x q y) m = fulfilled x m && fulfilled y m
fulfilled (Binary' Seq p x q y) m = fulfilled x m && fulfilled y m

abbrev pub strikes : Expr → ℕ → Marks → Marks
strikes (Leaf (Lit l) i) e m = cond (is_open m i.value && event_of l == e) (struck_at i.value) none
strikes (Leaf Yes i) e m = none
strikes (Leaf No i) e m = none
strikes (Binary' h p x q y) e m = union (strikes x e m) (strikes y e m)

-- In a `seq` the literal reaches the second part only if the first was fulfilled before it. Otherwise it came too early:
-- the open leaves of its event in the second part are struck, under both signs.
abbrev pub gains : Expr → Literal → Marks → Marks
gains (Leaf (Lit k) i) l m = cond (is_open m i.value && same k l) (met_at i.value) (strikes (Leaf (Lit k) i) (event_of l) m)
gains (Leaf Yes i) l m = none
gains (Leaf No i) l m = none
gains (Binary' Alt p x q y) l m = union (gains x l m) (gains y l m)
gains (Binary' All p x q y) l m = union (gains x l m) (gains y l m)
gains (Binary' Seq p x q y) l m = union (gains x l m) (cond (fulfilled x m) (gains y l m) (strikes y (event_of l) m))

abbrev pub applied : Expr → Marks → Literal → Marks
applied x m l = union m (gains x l m)

abbrev pub fresh_all : List Expr → Marks
fresh_all xs = fold (λ sum x. union sum (fresh x)) none xs

abbrev pub applied_all : List Expr → Marks → Literal → Marks
applied_all xs m l = fold (λ sum x. union sum (gains x l m)) m xs
