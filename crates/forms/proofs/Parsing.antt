-- Forms, groups and members, from the words that they begin with.
use Rattle.std.proofs.Common.{◌≡◌, ℕ, ◌-◌, ◌<◌, ◌≤◌, Bool, true, false, List, ◌∷◌, drop, is_err, Some, None, Ok, Err, Result, refl, ap, subst, arith}
use mathlib.Core.Bool.{false≢true}
use mathlib.Core.Logic.{◌⊎◌, inl, inr}
use Rattle.text.specs.declared.name.NameRun.{NameRun}
use Rattle.text.specs.declared.word.Word.{Word}
use Rattle.text.specs.declared.word.Word.TheVariants.{Open, Close, Name, Never}
use Rattle.text.specs.declared.word.Next.{Next}
use Rattle.text.specs.Words.{Token, token_of, opens, closes, named, negated, Stands, Inner}
use Rattle.text.specs.Runs.{NextAt}
use Rattle.algebra.specs.declared.expr.Head.{Head}
use Rattle.forms.specs.declared.expr.NotForm.{NotForm}
use Rattle.forms.specs.Forms.{head_text, Form, plain, never, group, Chain, last, more, words, chain, Fine, Fines}
use Rattle.forms.specs.Reads.{Left, Within, HeadAt, CloseAt, ExprAt, GroupAt, MembersAt}
use Rattle.forms.proofs.Steps.{left_to, left_from, left_none, head_same}
use Rattle.text.proofs.Tokens.{named_same, negated_same, apart}

-- the first word of a form is no closing bracket
words_first : (f : Form) (ts : List Token) → (u : Token) × (us : List Token) × (words f ts ≡ u ∷ us) × Inner u
words_first (plain n) ts = (named n, ts, refl, tt)
words_first (never n) ts = (negated n, ts, refl, tt)
words_first (group h f c) ts = (opens, named (head_text h) ∷ words f (chain c ts), refl, tt)

pub chain_first : (c : Chain) (ts : List Token) → (u : Token) × (us : List Token) × (chain c ts ≡ u ∷ us) × Inner u
chain_first (last f) ts = words_first f (closes ∷ ts)
chain_first (more f c) ts = words_first f (chain c ts)

module _ (bs : List ℕ) (a : ℕ) (tight : Bool) where
  pub expr_none : NextAt tight bs a None → (f : Form) (ts : List Token) (o : List ℕ) → Left bs a tight (words f ts) o → ⊥
  expr_none none (plain n) ts o l = left_none bs a tight o (named n) ts none l
  expr_none none (never n) ts o l = left_none bs a tight o (negated n) ts none l
  expr_none none (group h f c) ts o l = left_none bs a tight o opens (named (head_text h) ∷ words f (chain c ts)) none l

  module _ (e : ℕ) (in-line : Within bs a e) (d : ℕ) where
    pub plain_only : (n : List ℕ) → Stands tight (drop a bs) (named n) (drop e bs) → (g : Form) (ts : List Token) (o : List ℕ) → Left bs a tight (words g ts) o → (g ≡ plain n) × Left bs e false ts o
    plain_only n s (plain m) ts o l = let p = left_from bs a tight o e (named n) (named m) ts s l in (ap plain (named_same p.0), p.1)
    plain_only n s (never m) ts o l = let p = left_from bs a tight o e (named n) (negated m) ts s l in absurd (let q = p.0 in apart (cc))
    plain_only n s (group h f c) ts o l = let p = left_from bs a tight o e (named n) opens (named (head_text h) ∷ words f (chain c ts)) s l in absurd (let q = p.0 in apart (cc))

    pub expr_plain : (n : List ℕ) → Stands tight (drop a bs) (named n) (drop e bs) → ExprAt tight bs a d (Ok e)
    expr_plain n s = (plain n, s.0, in-line, (λ ts o l. left_to bs a tight o e (named n) ts s l), (λ g ts o fine l. plain_only n s g ts o l))

    pub never_only : (n : List ℕ) → Stands tight (drop a bs) (negated n) (drop e bs) → (g : Form) (ts : List Token) (o : List ℕ) → Left bs a tight (words g ts) o → (g ≡ never n) × Left bs e false ts o
    never_only n s (plain m) ts o l = let p = left_from bs a tight o e (negated n) (named m) ts s l in absurd (let q = p.0 in apart (cc))
    never_only n s (never m) ts o l = let p = left_from bs a tight o e (negated n) (negated m) ts s l in (ap never (negated_same p.0), p.1)
    never_only n s (group h f c) ts o l = let p = left_from bs a tight o e (negated n) opens (named (head_text h) ∷ words f (chain c ts)) s l in absurd (let q = p.0 in apart (cc))

    pub expr_never : (n : List ℕ) → Stands tight (drop a bs) (negated n) (drop e bs) → ExprAt tight bs a d (Ok e)
    expr_never n s = (never n, s.0, in-line, (λ ts o l. left_to bs a tight o e (negated n) ts s l), (λ g ts o fine l. never_only n s g ts o l))

    pub expr_close : Stands tight (drop a bs) closes (drop e bs) → (f : Form) (ts : List Token) (o : List ℕ) → Left bs a tight (words f ts) o → ⊥
    expr_close s (plain m) ts o l = let p = left_from bs a tight o e closes (named m) ts s l in let q = p.0 in apart (cc)
    expr_close s (never m) ts o l = let p = left_from bs a tight o e closes (negated m) ts s l in let q = p.0 in apart (cc)
    expr_close s (group h f c) ts o l = let p = left_from bs a tight o e closes opens (named (head_text h) ∷ words f (chain c ts)) s l in let q = p.0 in apart (cc)

    -- a group behind its opening bracket
    module _ (s : Stands tight (drop a bs) opens (drop e bs)) where
      inside : (h : Head) (f : Form) (c : Chain) (ts : List Token) (o : List ℕ) → Left bs a tight (words (group h f c) ts) o → Left bs e true (named (head_text h) ∷ words f (chain c ts)) o
      inside h f c ts o l = (left_from bs a tight o e opens opens (named (head_text h) ∷ words f (chain c ts)) s l).1

      open_none : (x : NotForm) → GroupAt bs e d (Err x) → (g : Form) (ts : List Token) (o : List ℕ) → Fine g d → Left bs a tight (words g ts) o → ⊥
      open_none x none (plain m) ts o fine l = let p = left_from bs a tight o e opens (named m) ts s l in let q = p.0 in apart (cc)
      open_none x none (never m) ts o fine l = let p = left_from bs a tight o e opens (negated m) ts s l in let q = p.0 in apart (cc)
      open_none x none (group h f c) ts o fine l = none h f c ts o fine (inside h f c ts o l)

      open_only : (e2 : ℕ) (h : Head) (f : Form) (c : Chain)
          → ((k : Head) (g : Form) (b : Chain) (ts : List Token) (o : List ℕ) → Fine (group k g b) d → Left bs e true (named (head_text k) ∷ words g (chain b ts)) o → (group k g b ≡ group h f c) × Left bs e2 false ts o)
          → (g : Form) (ts : List Token) (o : List ℕ) → Fine g d → Left bs a tight (words g ts) o → (g ≡ group h f c) × Left bs e2 false ts o
      open_only e2 h f c only (plain m) ts o fine l = let p = left_from bs a tight o e opens (named m) ts s l in absurd (let q = p.0 in apart (cc))
      open_only e2 h f c only (never m) ts o fine l = let p = left_from bs a tight o e opens (negated m) ts s l in absurd (let q = p.0 in apart (cc))
      open_only e2 h f c only (group k g b) ts o fine l = only k g b ts o fine (inside k g b ts o l)

      pub expr_open : (r : Result ℕ NotForm) → GroupAt bs e d r → ExprAt tight bs a d r
      expr_open (Err x) none = open_none x none
      expr_open (Ok e2) (h, f, c, fine, within, to, only) = (
        group h f c,
        fine,
        ((omega arith), within.1),
        (λ ts o l. left_to bs a tight o e opens (named (head_text h) ∷ words f (chain c ts)) s (to ts o l)),
        open_only e2 h f c only,
      )

  -- the word that stands at place a
  module _ (x : Next) (found : NextAt tight bs a (Some x)) (d : ℕ) where
    stands : (w : Word) → x.word ≡ w → Stands tight (drop a bs) (token_of w) (drop x.end bs)
    stands w is = subst (λ v. Stands tight (drop a bs) (token_of v) (drop x.end bs)) is found.2

    pub expr_leaf : ((n : NameRun) × (x.word ≡ Name n)) ⊎ ((n : NameRun) × (x.word ≡ Never n)) → ExprAt tight bs a d (Ok x.end)
    expr_leaf (inl (n, is)) = expr_plain x.end (found.0, found.1) d n.bytes.now (stands (Name n) is)
    expr_leaf (inr (n, is)) = expr_never x.end (found.0, found.1) d n.bytes.now (stands (Never n) is)

    pub expr_shut : x.word ≡ Close → (f : Form) (ts : List Token) (o : List ℕ) → Left bs a tight (words f ts) o → ⊥
    expr_shut is f ts o l = expr_close x.end (found.0, found.1) d (stands Close is) f ts o l

    pub expr_group : x.word ≡ Open → (r : Result ℕ NotForm) → GroupAt bs x.end d r → ExprAt tight bs a d r
    expr_group is r inner = expr_open x.end (found.0, found.1) d (stands Open is) r inner

module _ (bs : List ℕ) (a d : ℕ) where
  pub group_none : (x : NotForm) → HeadAt bs a None → GroupAt bs a d (Err x)
  group_none x none h f c ts o fine l = none h l.0 l.1

  pub group_first_none : (h : Head) (e1 : ℕ) (x y : NotForm) → HeadAt bs a (Some (h, e1)) → ExprAt false bs e1 (d - 1) (Err x) → GroupAt bs a d (Err y)
  group_first_none h e1 x y (w1, at1) none k g b ts o (p, fg, fb) l =
      none g (chain b ts) o fg (left_from bs a true o e1 (named (head_text h)) (named (head_text k)) (words g (chain b ts)) at1 l).1

  -- a group: its head, its first member, and the others
  pub group_more : (h : Head) (e1 e2 : ℕ) (r : Result ℕ NotForm) → 0 < d → HeadAt bs a (Some (h, e1)) → ExprAt false bs e1 (d - 1) (Ok e2) → MembersAt bs e2 (d - 1) 7 r → GroupAt bs a d r
  group_more h e1 e2 (Err x) pos (w1, at1) (f, fine, w2, to2, only2) none =
      λ k g b ts o (p, fg, fb) l. none b ts o fb (only2 g (chain b ts) o fg (left_from bs a true o e1 (named (head_text h)) (named (head_text k)) (words g (chain b ts)) at1 l).1).1
  group_more h e1 e2 (Ok e3) pos (w1, at1) (f, fine, w2, to2, only2) (c, fines, w3, to3, only3) = (
    h,
    f,
    c,
    (pos, fine, fines),
    ((omega arith), w3.1),
    (λ ts o l. left_to bs a true o e1 (named (head_text h)) (words f (chain c ts)) at1 (to2 (chain c ts) o (to3 ts o l))),
    (λ k g b ts o (p, fg, fb) l.
        let q1 = left_from bs a true o e1 (named (head_text h)) (named (head_text k)) (words g (chain b ts)) at1 l in
        let q2 = only2 g (chain b ts) o fg q1.1 in
        let q3 = only3 b ts o fb q2.1 in
        ((let x = head_same k h (named_same q1.0) in let y = q2.0 in let z = q3.0 in cc), q3.1)),
  )

module _ (bs : List ℕ) (a d n : ℕ) where
  pub members_zero : n ≤ 0 → (c : Chain) (ts : List Token) (o : List ℕ) → Fines c d n → Left bs a false (chain c ts) o → ⊥
  members_zero h (last f) ts o (pos, fine) l = omega arith
  members_zero h (more f c) ts o (pos, fine, rest) l = omega arith

  members_none : (x : NotForm) → ExprAt false bs a d (Err x) → (c : Chain) (ts : List Token) (o : List ℕ) → Fines c d n → Left bs a false (chain c ts) o → ⊥
  members_none x none (last f) ts o (pos, fine) l = none f (closes ∷ ts) o fine l
  members_none x none (more f c) ts o (pos, fine, rest) l = none f (chain c ts) o fine l

  pub members_broken : (x : NotForm) (r : Result ℕ NotForm) → is_err r ≡ true → ExprAt false bs a d (Err x) → MembersAt bs a d n r
  members_broken x (Ok e) err none = absurd (false≢true err)
  members_broken x (Err y) err none = members_none x none

  module _ (pos : 0 < n) (e1 : ℕ) (first : ExprAt false bs a d (Ok e1)) where
    last_only : (e2 : ℕ) → CloseAt bs e1 (Some e2) → (b : Chain) (ts : List Token) (o : List ℕ) → Fines b d n → Left bs a false (chain b ts) o → (b ≡ last first.0) × Left bs e2 false ts o
    last_only e2 (w, at) (last g) ts o (p, fg) l =
        let q = first.4 g (closes ∷ ts) o fg l in (ap last q.0, (left_from bs e1 false o e2 closes closes ts at q.1).1)
    last_only e2 (w, at) (more g b) ts o (p, fg, fb) l =
        let q = first.4 g (chain b ts) o fg l in
        let (u, us, is, inner) = chain_first b ts in
        let t = left_from bs e1 false o e2 closes u us at (subst (λ w. Left bs e1 false w o) is q.1) in
        absurd (subst Inner t.0 inner)

    pub members_last : (e2 : ℕ) → CloseAt bs e1 (Some e2) → MembersAt bs a d n (Ok e2)
    members_last e2 close = (
      last first.0,
      (pos, first.1),
      ((let v = first.2 in let w = close.0 in omega arith), close.0.1),
      (λ ts o l. first.3 (closes ∷ ts) o (left_to bs e1 false o e2 closes ts close.1 l)),
      last_only e2 close,
    )

    closed_not : CloseAt bs e1 None → (ts : List Token) (o : List ℕ) → Left bs e1 false (closes ∷ ts) o → ⊥
    closed_not none ts o l = none l.0 l.1

    more_none : (x : NotForm) → CloseAt bs e1 None → MembersAt bs e1 d (n - 1) (Err x) → (b : Chain) (ts : List Token) (o : List ℕ) → Fines b d n → Left bs a false (chain b ts) o → ⊥
    more_none x none rest (last g) ts o (p, fg) l = closed_not none ts o (first.4 g (closes ∷ ts) o fg l).1
    more_none x none rest (more g b) ts o (p, fg, fb) l = rest b ts o fb (first.4 g (chain b ts) o fg l).1

    more_only : (e2 : ℕ) (c : Chain) → CloseAt bs e1 None → ((b : Chain) (ts : List Token) (o : List ℕ) → Fines b d (n - 1) → Left bs e1 false (chain b ts) o → (b ≡ c) × Left bs e2 false ts o) → (b : Chain) (ts : List Token) (o : List ℕ) → Fines b d n → Left bs a false (chain b ts) o → (b ≡ more first.0 c) × Left bs e2 false ts o
    more_only e2 c none only (last g) ts o (p, fg) l = absurd (closed_not none ts o (first.4 g (closes ∷ ts) o fg l).1)
    more_only e2 c none only (more g b) ts o (p, fg, fb) l =
        let q = first.4 g (chain b ts) o fg l in
        let t = only b ts o fb q.1 in
        ((let x = q.0 in let y = t.0 in cc), t.1)

    pub members_more : (r : Result ℕ NotForm) → CloseAt bs e1 None → MembersAt bs e1 d (n - 1) r → MembersAt bs a d n r
    members_more (Err x) none rest = more_none x none rest
    members_more (Ok e2) none (c, fines, w, to, only) = (
      more first.0 c,
      (pos, first.1, fines),
      ((let v = first.2 in omega arith), w.1),
      (λ ts o l. first.3 (chain c ts) o (to ts o l)),
      more_only e2 c none only,
    )
