-- What compiling an expression answers. Assumes nothing.
--     Entered s e n                  the event e has the name n among the names s
--     Ready s k ls                   the names of the leaves ls are among the names s, and they can be numbered from k on
--     AtomAt s n                     the word n can be compiled as a leaf
--     AtomOf s n a                   the atom a is what the leaf n says, without `~`
--     LeafBuilt a k e b              b is the leaf of the number k that says a, and its text ends at e
--     FormAt, GroupAt, MembersAt     a form stands at place a of the text bs, ready to be compiled; a group, behind its opening bracket;
--                                    the further members of a group
--     Numbered k x n                 the leaves of the expression x are numbered from k on, and there are n
--     FormBuilt s k bs f ts o r      r is the form f compiled, which the tokens ts and the bytes o follow, and where it ends
--     ChainBuilt s h k bs c ts o r   the same of the further members c of a group with the head h
--     Pair h x y z                   the expression z has the head h and the parts x and y
--     Paired h one two b             b is the expression of the head h with the parts one and two, behind which it ends
use Rattle.std.specs.Prelude.{◌≡◌, ℕ, ◌+◌, ◌≤◌, Bool, true, false, List, ◌∷◌, length, Some, None, Ok, Err, codes, Result, ◌≢◌}
use Rattle.std.specs.declared.alloc.AllocError.{AllocError}
use Rattle.algebra.specs.declared.leaf.LeafNumber.{LeafNumber}
use Rattle.algebra.specs.declared.literal.Literal.TheVariants.{Happened, Never}
use Rattle.algebra.specs.declared.expr.Atom.{Atom}
use Rattle.algebra.specs.declared.expr.Atom.TheVariants.{Lit, Yes, No}
use Rattle.algebra.specs.declared.expr.Expr.TheVariants as algebra-expr
use Rattle.algebra.specs.declared.expr.Head.{Head}
use Rattle.algebra.specs.declared.expr.Expr.{Expr}
use Rattle.algebra.specs.Expressions as algebra
use Rattle.algebra.specs.Rules.{Counts}
use Rattle.text.specs.Words.{Token, named}
use Rattle.forms.specs.Forms.{head_text, Form, group, Chain, words, chain, Fine, Fines}
use Rattle.forms.specs.Reads.{Left}
use Rattle.accept.specs.declared.names.EventNames.{EventNames}
use Rattle.flow.specs.declared.built.Built.{Built}
use Rattle.accept.specs.Drafts.{Leaf, leaves, leaves_of}
use Rattle.accept.specs.Tallies.{known, Mentions}
use Rattle.flow.specs.Compiles.{Means, MeansAll}

abbrev pub Entered : EventNames → ℕ → List ℕ → Type 0
Entered s e n = known s n ≡ Some e

abbrev pub Ready : EventNames → ℕ → List Leaf → Type 0
Ready s k ls = ((n : List ℕ) → Mentions ls n → known s n ≢ None) × (k + length ls ≤ 64)

-- the words yes and no are no names, and every other word is among the names
abbrev pub AtomAt : EventNames → List ℕ → Type 0
AtomAt s n = (n ≢ codes "yes") → (n ≢ codes "no") → known s n ≢ None

abbrev pub AtomOf : EventNames → List ℕ → Atom → Type 0
AtomOf s n (Lit (Happened e)) = Entered s e n
AtomOf s n (Lit (Never e)) = ⊥
AtomOf s n Yes = n ≡ codes "yes"
AtomOf s n No = n ≡ codes "no"

abbrev pub LeafBuilt : Atom → ℕ → ℕ → Built → Type 0
LeafBuilt a k e b = (b.end ≡ e) × (b.next ≡ k + 1) × ((i : LeafNumber) × (i.value ≡ k) × (b.expr ≡ algebra-expr.Leaf a i))

module _ (s : EventNames) (bs : List ℕ) (a d k : ℕ) where
  pub record FormAt (tight : Bool) : Type 0 where
    pub form : Form
    pub tokens : List Token
    pub onward : List ℕ
    pub fine : Fine form d
    pub left : Left bs a tight (words form tokens) onward
    pub ready : Ready s k (leaves form)

  pub record GroupAt : Type 0 where
    pub head : Head
    pub first : Form
    pub others : Chain
    pub tokens : List Token
    pub onward : List ℕ
    pub fine : Fine (group head first others) d
    pub left : Left bs a true (named (head_text head) ∷ words first (chain others tokens)) onward
    pub ready : Ready s k (leaves (group head first others))

  pub record MembersAt (n : ℕ) : Type 0 where
    pub others : Chain
    pub tokens : List Token
    pub onward : List ℕ
    pub fine : Fines others d n
    pub left : Left bs a false (chain others tokens) onward
    pub ready : Ready s k (leaves_of others)

pub record Numbered (k : ℕ) (x : Expr) (n : ℕ) : Type 0 where
  pub counts : Counts k (algebra.leaves x)
  pub many : length (algebra.leaves x) ≡ n

module _ (s : EventNames) (k : ℕ) (bs : List ℕ) where
  abbrev pub FormBuilt : Form → List Token → List ℕ → Result Built AllocError → Type 0
  FormBuilt f ts o (Ok b) =
      Left bs b.end false ts o × Means (Entered s) f b.expr × Numbered k b.expr (length (leaves f)) × (b.next ≡ k + length (leaves f))
  FormBuilt f ts o (Err e) = Unit {0}

  abbrev pub ChainBuilt : Head → Chain → List Token → List ℕ → Result Built AllocError → Type 0
  ChainBuilt h c ts o (Ok b) =
      Left bs b.end false ts o × MeansAll (Entered s) h c b.expr × Numbered k b.expr (length (leaves_of c)) × (b.next ≡ k + length (leaves_of c))
  ChainBuilt h c ts o (Err e) = Unit {0}

abbrev pub Pair : Head → Expr → Expr → Expr → Type 0
Pair h x y (algebra-expr.Leaf a i) = ⊥
Pair h x y (algebra-expr.Binary' g p v q w) = (g ≡ h) × (v ≡ x) × (w ≡ y)

-- the pointers of the two boxes are of no account
abbrev pub Paired : Head → Built → Built → Built → Type 0
Paired h one two b = (b.end ≡ two.end) × (b.next ≡ two.next) × Pair h one.expr two.expr b.expr
