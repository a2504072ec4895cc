-- Compiling expressions.
use Rattle.std.proofs.Common.{◌≡◌, ℕ, ◌+◌, ◌-◌, ◌<◌, Bool, true, false, List, [], ◌∷◌, ◌++◌, length, drop, IfOk, IsSome, Some, None, Ok, Err, Option, Result, sym, refl, ap, ◌∙◌, subst, arith, length-append}
use mathlib.Core.List.Memᴰ
use mathlib.Core.List.{Memᴰ}
use Rattle.std.specs.declared.alloc.AllocError.{AllocError}
use Rattle.algebra.specs.declared.leaf.LeafNumber.{LeafNumber}
use Rattle.algebra.specs.declared.literal.Literal.TheVariants.{Happened, Never}
use Rattle.algebra.specs.declared.expr.Atom.{Atom}
use Rattle.algebra.specs.declared.expr.Atom.TheVariants.{Lit, Yes, No}
use Rattle.algebra.specs.declared.expr.Head.{Head}
use Rattle.algebra.specs.declared.expr.Expr.{Expr}
use Rattle.algebra.specs.declared.expr.Expr.TheVariants as algebra-expr
use Rattle.algebra.specs.Expressions as algebra
use Rattle.algebra.specs.Rules.{Counts}
use Rattle.algebra.proofs.Counts.{counts_join}
use Rattle.text.specs.Words.{Token, opens, closes, named, negated, Stands, Inner}
use Rattle.text.specs.declared.placed.Placed.{Placed}
use Rattle.text.specs.Places.{PlacedAt}
use Rattle.forms.specs.Forms.{head_text, Form, plain, never, group, Chain, last, more, words, chain, Fine, Fines}
use Rattle.forms.specs.Reads.{Left, Within, HeadAt, CloseAt}
use Rattle.forms.proofs.Steps.{left_from, head_same}
use Rattle.text.proofs.Tokens.{named_same, apart}
use Rattle.forms.proofs.Parsing.{chain_first, expr_none, plain_only, never_only, expr_close}
use Rattle.accept.specs.declared.names.EventNames.{EventNames}
use Rattle.flow.specs.declared.built.Built.{Built}
use Rattle.accept.specs.Drafts.{Leaf, bare, leaves, leaves_of}
use Rattle.accept.specs.Drafts as drafts
use Rattle.accept.specs.Tallies.{known}
use Rattle.flow.specs.Compiles.{Means, MeansAll}
use Rattle.flow.specs.Builds.{Entered, Ready, AtomAt, AtomOf, LeafBuilt, FormAt, GroupAt, MembersAt, Numbered, FormBuilt, ChainBuilt, Pair, Paired}

module _ (s : EventNames) where
  -- leaves that are ready, in two parts
  ready_left : (k : ℕ) (ls ms : List Leaf) → Ready s k (ls ++ ms) → Ready s k ls
  ready_left k ls ms (all, few) =
      ((λ n (l, at, is). all n (l, Memᴰ.append_left ms at, is)), (let q = length-append ls ms in omega arith))

  ready_right : (k j : ℕ) (ls ms : List Leaf) → j ≡ k + length ls → Ready s k (ls ++ ms) → Ready s j ms
  ready_right k j ls ms is (all, few) =
      ((λ n (l, at, e). all n (l, Memᴰ.append_right ls at, e)), (let q = length-append ls ms in omega arith))

  -- a leaf
  pub ready_bare : (k : ℕ) (n : List ℕ) → Ready s k (bare n ∷ []) → AtomAt s n × (k < 64)
  ready_bare k n (all, few) = ((λ y z. all n (bare n, Memᴰ.head refl, (refl, y, z))), omega arith)

  pub ready_negated : (k : ℕ) (n : List ℕ) → Ready s k (drafts.negated n ∷ []) → (known s n ≡ None → ⊥) × (k < 64)
  ready_negated k n (all, few) = (all n (drafts.negated n, Memᴰ.head refl, refl), omega arith)

  leaf_numbered : (k : ℕ) (a : Atom) (i : LeafNumber) → i.value ≡ k → Numbered k (algebra-expr.Leaf a i) 1
  leaf_numbered k a i is = record { counts = ap (λ n. n ∷ []) is; many = refl }

  means_bare : (n : List ℕ) (a : Atom) (i : LeafNumber) → AtomOf s n a → Means (Entered s) (plain n) (algebra-expr.Leaf a i)
  means_bare n (Lit (Happened e)) i is = is
  means_bare n (Lit (Never e)) i is = is
  means_bare n Yes i is = is
  means_bare n No i is = is

  module _ (k : ℕ) (bs : List ℕ) where
    pub built_bare : (n : List ℕ) (a : Atom) (e : ℕ) (b : Built) (ts : List Token) (o : List ℕ) → AtomOf s n a → LeafBuilt a k e b → Left bs e false ts o → FormBuilt s k bs (plain n) ts o (Ok b)
    built_bare n a e b ts o is (end, next, (i, number, expr)) l = (
      subst (λ z. Left bs z false ts o) (sym end) l,
      subst (Means (Entered s) (plain n)) (sym expr) (means_bare n a i is),
      subst (λ x. Numbered k x 1) (sym expr) (leaf_numbered k a i number),
      next,
    )

    pub built_negated : (n : List ℕ) (v e : ℕ) (b : Built) (ts : List Token) (o : List ℕ) → known s n ≡ Some v → LeafBuilt (Lit (Never v)) k e b → Left bs e false ts o → FormBuilt s k bs (never n) ts o (Ok b)
    built_negated n v e b ts o is (end, next, (i, number, expr)) l = (
      subst (λ z. Left bs z false ts o) (sym end) l,
      subst (Means (Entered s) (never n)) (sym expr) is,
      subst (λ x. Numbered k x 1) (sym expr) (leaf_numbered k (Lit (Never v)) i number),
      next,
    )

  module _ (bs : List ℕ) (a d k : ℕ) (tight : Bool) where
    form_stuck : PlacedAt tight bs a 0 None → FormAt s bs a d k tight → ⊥
    form_stuck none at = expr_none bs a tight none at.form at.tokens at.onward at.left

    pub form_there : (n : ℕ) (r : Option Placed) → PlacedAt tight bs a n r → FormAt s bs a d k tight → IsSome r
    form_there n None none at = absurd (form_stuck none at)
    form_there n (Some x) is at = refl

    module _ (e : ℕ) (in-line : Within bs a e) where
      pub form_closed : Stands tight (drop a bs) closes (drop e bs) → FormAt s bs a d k tight → ⊥
      form_closed stands at = expr_close bs a tight e in-line d stands at.form at.tokens at.onward at.left

      module _ (n : List ℕ) (stands : Stands tight (drop a bs) (named n) (drop e bs)) where
        only_plain : (f : Form) (ts : List Token) (o : List ℕ) → Fine f d → Left bs a tight (words f ts) o → (f ≡ plain n) × Left bs e false ts o
        only_plain f ts o fine l = plain_only bs a tight e in-line d n stands f ts o l

        pub plain_ready : FormAt s bs a d k tight → AtomAt s n × (k < 64)
        plain_ready at = ready_bare k n (subst (λ f. Ready s k (leaves f)) (only_plain at.form at.tokens at.onward at.fine at.left).0 at.ready)

        pub plain_built : (x : Atom) (b : Built) → AtomOf s n x → LeafBuilt x k e b → (f : Form) (ts : List Token) (o : List ℕ) → Fine f d → Left bs a tight (words f ts) o → FormBuilt s k bs f ts o (Ok b)
        plain_built x b is built f ts o fine l =
            let p = only_plain f ts o fine l in
            subst (λ g. FormBuilt s k bs g ts o (Ok b)) (sym p.0) (built_bare k bs n x e b ts o is built p.1)

      module _ (n : List ℕ) (stands : Stands tight (drop a bs) (negated n) (drop e bs)) where
        only_never : (f : Form) (ts : List Token) (o : List ℕ) → Fine f d → Left bs a tight (words f ts) o → (f ≡ never n) × Left bs e false ts o
        only_never f ts o fine l = never_only bs a tight e in-line d n stands f ts o l

        pub never_ready : FormAt s bs a d k tight → (known s n ≡ None → ⊥) × (k < 64)
        never_ready at = ready_negated k n (subst (λ f. Ready s k (leaves f)) (only_never at.form at.tokens at.onward at.fine at.left).0 at.ready)

        pub never_built : (v : ℕ) (b : Built) → known s n ≡ Some v → LeafBuilt (Lit (Never v)) k e b → (f : Form) (ts : List Token) (o : List ℕ) → Fine f d → Left bs a tight (words f ts) o → FormBuilt s k bs f ts o (Ok b)
        never_built v b is built f ts o fine l =
            let p = only_never f ts o fine l in
            subst (λ g. FormBuilt s k bs g ts o (Ok b)) (sym p.0) (built_negated k bs n v e b ts o is built p.1)

      -- a group behind its opening bracket
      module _ (stands : Stands tight (drop a bs) opens (drop e bs)) where
        group_ready : (f : Form) (ts : List Token) (o : List ℕ) → Fine f d → Left bs a tight (words f ts) o → Ready s k (leaves f) → GroupAt s bs e d k
        group_ready (plain n) ts o fine l ready = absurd (let q = (left_from bs a tight o e opens (named n) ts stands l).0 in apart (cc))
        group_ready (never n) ts o fine l ready = absurd (let q = (left_from bs a tight o e opens (negated n) ts stands l).0 in apart (cc))
        group_ready (group h f c) ts o fine l ready =
            record { head = h; first = f; others = c; tokens = ts; onward = o; fine = fine; left = (left_from bs a tight o e opens opens (named (head_text h) ∷ words f (chain c ts)) stands l).1; ready = ready }

        pub open_ready : FormAt s bs a d k tight → GroupAt s bs e d k
        open_ready at = group_ready at.form at.tokens at.onward at.fine at.left at.ready

        pub open_built : (r : Result Built AllocError)
            → ((h : Head) (f : Form) (c : Chain) (ts : List Token) (o : List ℕ) → Fine (group h f c) d → Left bs e true (named (head_text h) ∷ words f (chain c ts)) o → FormBuilt s k bs (group h f c) ts o r)
            → (f : Form) (ts : List Token) (o : List ℕ) → Fine f d → Left bs a tight (words f ts) o → FormBuilt s k bs f ts o r
        open_built r all (plain n) ts o fine l = absurd (let q = (left_from bs a tight o e opens (named n) ts stands l).0 in apart (cc))
        open_built r all (never n) ts o fine l = absurd (let q = (left_from bs a tight o e opens (negated n) ts stands l).0 in apart (cc))
        open_built r all (group h f c) ts o fine l = all h f c ts o fine (left_from bs a tight o e opens opens (named (head_text h) ∷ words f (chain c ts)) stands l).1

  -- two expressions under a head
  pair_means : (h : Head) (f : Form) (c : Chain) (x y z : Expr) → Means (Entered s) f x → MeansAll (Entered s) h c y → Pair h x y z → Means (Entered s) (group h f c) z
  pair_means h f c x y (algebra-expr.Leaf a i) m n p = p
  pair_means h f c x y (algebra-expr.Binary' g u v w t) m n (head, left, right) = (head, subst (Means (Entered s) f) (sym left) m, subst (MeansAll (Entered s) h c) (sym right) n)

  pair_means_all : (h : Head) (f : Form) (c : Chain) (x y z : Expr) → Means (Entered s) f x → MeansAll (Entered s) h c y → Pair h x y z → MeansAll (Entered s) h (more f c) z
  pair_means_all h f c x y (algebra-expr.Leaf a i) m n p = p
  pair_means_all h f c x y (algebra-expr.Binary' g u v w t) m n (head, left, right) = (head, subst (Means (Entered s) f) (sym left) m, subst (MeansAll (Entered s) h c) (sym right) n)

  pair_leaves : (h : Head) (x y z : Expr) → Pair h x y z → algebra.leaves z ≡ algebra.leaves x ++ algebra.leaves y
  pair_leaves h x y (algebra-expr.Leaf a i) p = absurd p
  pair_leaves h x y (algebra-expr.Binary' g u v w t) (head, left, right) = ap (λ q. algebra.leaves q ++ algebra.leaves t) left ∙ ap (λ q. algebra.leaves x ++ algebra.leaves q) right

  pair_numbered : (h : Head) (k j m n : ℕ) (x y z : Expr) → Numbered k x m → Numbered j y n → j ≡ k + m → Pair h x y z → Numbered k z (m + n)
  pair_numbered h k j m n x y z one two is p =
      let same = pair_leaves h x y z p in
      record {
        counts = subst (Counts k) (sym same) (counts_join k (algebra.leaves x) (algebra.leaves y) one.counts (subst (λ i. Counts i (algebra.leaves y)) (is ∙ ap (λ i. k + i) (sym one.many)) two.counts));
        many = ap length same ∙ length-append (algebra.leaves x) (algebra.leaves y) ∙ ap (λ i. i + length (algebra.leaves y)) one.many ∙ ap (λ i. m + i) two.many;
      }

  module _ (k : ℕ) (bs : List ℕ) (one : Built) (h : Head) (f : Form) (c : Chain) (ts : List Token) (o : List ℕ) (first : FormBuilt s k bs f (chain c ts) o (Ok one)) (others : Built) (then : ChainBuilt s one.next bs h c ts o (Ok others)) where
    sum : (k + length (leaves f)) + length (leaves_of c) ≡ k + length (leaves f ++ leaves_of c)
    sum = let q = length-append (leaves f) (leaves_of c) in omega arith

    numbered : (b : Built) → Paired h one others b → Numbered k b.expr (length (leaves f ++ leaves_of c)) × (b.next ≡ k + length (leaves f ++ leaves_of c))
    numbered b (end, next, p) = (
      subst (Numbered k b.expr) (sym (length-append (leaves f) (leaves_of c))) (pair_numbered h k one.next (length (leaves f)) (length (leaves_of c)) one.expr others.expr b.expr first.2 then.2 first.3 p),
      next ∙ then.3 ∙ ap (λ i. i + length (leaves_of c)) first.3 ∙ sum,
    )

    pub group_built : (r : Result Built AllocError) → IfOk r (λ b. Paired h one others b) → FormBuilt s k bs (group h f c) ts o r
    group_built (Err e) p = tt
    group_built (Ok b) p =
        let q = numbered b p in
        (subst (λ z. Left bs z false ts o) (sym p.0) then.0, pair_means h f c one.expr others.expr b.expr first.1 then.1 p.2, q.0, q.1)

    pub more_built : (r : Result Built AllocError) → IfOk r (λ b. Paired h one others b) → ChainBuilt s k bs h (more f c) ts o r
    more_built (Err e) p = tt
    more_built (Ok b) p =
        let q = numbered b p in
        (subst (λ z. Left bs z false ts o) (sym p.0) then.0, pair_means_all h f c one.expr others.expr b.expr first.1 then.1 p.2, q.0, q.1)

  -- the members of a group
  module _ (bs : List ℕ) (a d k : ℕ) where
    module _ (h : Head) (e : ℕ) (head : HeadAt bs a (Some (h, e))) where
      pub behind_head : (g : Head) (f : Form) (c : Chain) (ts : List Token) (o : List ℕ) → Left bs a true (named (head_text g) ∷ words f (chain c ts)) o → (g ≡ h) × Left bs e false (words f (chain c ts)) o
      behind_head g f c ts o l =
          let p = left_from bs a true o e (named (head_text h)) (named (head_text g)) (words f (chain c ts)) head.1 l in
          (head_same g h (named_same p.0), p.1)

      pub first_ready : GroupAt s bs a d k → FormAt s bs e (d - 1) k false
      first_ready at =
          record {
            form = at.first;
            tokens = chain at.others at.tokens;
            onward = at.onward;
            fine = at.fine.1;
            left = (behind_head at.head at.first at.others at.tokens at.onward at.left).1;
            ready = ready_left k (leaves at.first) (leaves_of at.others) at.ready;
          }

      pub others_ready : (one : Built) → ((f : Form) (ts : List Token) (o : List ℕ) → Fine f (d - 1) → Left bs e false (words f ts) o → FormBuilt s k bs f ts o (Ok one)) → GroupAt s bs a d k → MembersAt s bs one.end (d - 1) one.next 7
      others_ready one built at =
          let l = (behind_head at.head at.first at.others at.tokens at.onward at.left).1 in
          let first = built at.first (chain at.others at.tokens) at.onward at.fine.1 l in
          record {
            others = at.others;
            tokens = at.tokens;
            onward = at.onward;
            fine = at.fine.2;
            left = first.0;
            ready = ready_right k one.next (leaves at.first) (leaves_of at.others) first.3 at.ready;
          }

    module _ (n : ℕ) where
      first_of : (c : Chain) (ts : List Token) (o : List ℕ) → Fines c d n → Left bs a false (chain c ts) o → Ready s k (leaves_of c) → FormAt s bs a d k false
      first_of (last f) ts o (pos, fine) l ready = record { form = f; tokens = closes ∷ ts; onward = o; fine = fine; left = l; ready = ready }
      first_of (more f c) ts o (pos, fine, rest) l ready =
          record { form = f; tokens = chain c ts; onward = o; fine = fine; left = l; ready = ready_left k (leaves f) (leaves_of c) ready }

      pub member_ready : MembersAt s bs a d k n → FormAt s bs a d k false
      member_ready at = first_of at.others at.tokens at.onward at.fine at.left at.ready

      some_left : (c : Chain) → Fines c d n → 0 < n
      some_left (last f) (pos, fine) = pos
      some_left (more f c) (pos, fine, rest) = pos

      pub left_some : MembersAt s bs a d k n → 0 < n
      left_some at = some_left at.others at.fine

      module _ (one : Built) (built : (f : Form) (ts : List Token) (o : List ℕ) → Fine f d → Left bs a false (words f ts) o → FormBuilt s k bs f ts o (Ok one)) where
        -- the bracket that closes the group stands there
        pub last_built : (e : ℕ) → CloseAt bs one.end (Some e) → (h : Head) (c : Chain) (ts : List Token) (o : List ℕ) → Fines c d n → Left bs a false (chain c ts) o → ChainBuilt s k bs h c ts o (Ok (record { expr = one.expr; end = e; next = one.next }))
        last_built e (within, close) h (last f) ts o (pos, fine) l =
            let first = built f (closes ∷ ts) o fine l in
            ((left_from bs one.end false o e closes closes ts close first.0).1, first.1, first.2, first.3)
        last_built e (within, close) h (more f c) ts o (pos, fine, rest) l =
            let first = built f (chain c ts) o fine l in
            let (u, us, is, inner) = chain_first c ts in
            let t = left_from bs one.end false o e closes u us close (subst (λ w. Left bs one.end false w o) is first.0) in
            absurd (subst Inner t.0 inner)

        not_last : CloseAt bs one.end None → (f : Form) (ts : List Token) (o : List ℕ) → Fine f d → Left bs a false (words f (closes ∷ ts)) o → ⊥
        not_last none f ts o fine l = let first = (built f (closes ∷ ts) o fine l).0 in none first.0 first.1

        rest_of : CloseAt bs one.end None → (c : Chain) (ts : List Token) (o : List ℕ) → Fines c d n → Left bs a false (chain c ts) o → Ready s k (leaves_of c) → MembersAt s bs one.end d one.next (n - 1)
        rest_of none (last f) ts o (pos, fine) l ready = absurd (not_last none f ts o fine l)
        rest_of none (more f c) ts o (pos, fine, rest) l ready =
            let first = built f (chain c ts) o fine l in
            record { others = c; tokens = ts; onward = o; fine = rest; left = first.0; ready = ready_right k one.next (leaves f) (leaves_of c) first.3 ready }

        pub rest_ready : CloseAt bs one.end None → MembersAt s bs a d k n → MembersAt s bs one.end d one.next (n - 1)
        rest_ready none at = rest_of none at.others at.tokens at.onward at.fine at.left at.ready

        pub rest_built : CloseAt bs one.end None → (h : Head) (others : Built) → ((c : Chain) (ts : List Token) (o : List ℕ) → Fines c d (n - 1) → Left bs one.end false (chain c ts) o → ChainBuilt s one.next bs h c ts o (Ok others)) → (r : Result Built AllocError) → IfOk r (λ b. Paired h one others b) → (c : Chain) (ts : List Token) (o : List ℕ) → Fines c d n → Left bs a false (chain c ts) o → ChainBuilt s k bs h c ts o r
        rest_built none h others all r p (last f) ts o (pos, fine) l = absurd (not_last none f ts o fine l)
        rest_built none h others all r p (more f c) ts o (pos, fine, rest) l =
            let first = built f (chain c ts) o fine l in
            more_built k bs one h f c ts o first others (all c ts o rest first.0) r p

  pub whole_group : (bs : List ℕ) (a d k : ℕ) (h : Head) (e : ℕ) → HeadAt bs a (Some (h, e)) → (one : Built) → ((f : Form) (ts : List Token) (o : List ℕ) → Fine f (d - 1) → Left bs e false (words f ts) o → FormBuilt s k bs f ts o (Ok one)) → (others : Built) → ((c : Chain) (ts : List Token) (o : List ℕ) → Fines c (d - 1) 7 → Left bs one.end false (chain c ts) o → ChainBuilt s one.next bs h c ts o (Ok others)) → (r : Result Built AllocError) → IfOk r (λ b. Paired h one others b) → (g : Head) (f : Form) (c : Chain) (ts : List Token) (o : List ℕ) → Fine (group g f c) d → Left bs a true (named (head_text g) ∷ words f (chain c ts)) o → FormBuilt s k bs (group g f c) ts o r
  whole_group bs a d k h e head one built others all r p g f c ts o (pos, fine, fines) l =
      let q = behind_head bs a d k h e head g f c ts o l in
      let first = built f (chain c ts) o fine q.1 in
      subst (λ z. FormBuilt s k bs (group z f c) ts o r) (sym q.0) (group_built k bs one h f c ts o first others (all c ts o fines first.0) r p)
