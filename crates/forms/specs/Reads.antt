-- What the form reader answers at a place of a text. Assumes nothing.
--     Left bs a tight ts o    from place a on the text bs has the tokens ts, and then the bytes o
--     Within bs a e           the reader went on, from place a to place e
--     NameIs tight bs a r     r is the name that stands at place a, and where it ends; absent if none does
--     CaseAt w tight bs a r   r is the case whose word, which w gives, stands at place a, and where it ends; absent if none does
--     HeadAt bs a r           r is the head behind an opening bracket at place a, and where it ends
--     CloseAt bs a r          r is where the closing bracket at place a ends
--     ExprAt tight bs a d r   r is where the form at place a ends, with heads at most d deep
--     GroupAt bs a d r        r is where the group ends whose opening bracket ends at place a
--     MembersAt bs a d n r    r is where the further members of a group end, at most n, with their closing bracket
-- The last three say that just one such thing stands there if one is found, and none if not, whatever follows it.
use Rattle.std.specs.Prelude.{◌≡◌, ℕ, ◌<◌, ◌≤◌, Bool, true, false, List, ◌∷◌, length, drop, Some, None, Ok, Err, Option, Result}
use Rattle.text.specs.declared.name.NameRun.{NameRun}
use Rattle.text.specs.Words.{Token, closes, named, Stands, Written}
use Rattle.algebra.specs.declared.expr.Head.{Head}
use Rattle.forms.specs.declared.expr.NotForm.{NotForm}
use Rattle.forms.specs.Forms.{head_text, Form, Chain, group, words, chain, Fine, Fines}

abbrev pub Left : List ℕ → ℕ → Bool → List Token → List ℕ → Type 0
Left bs a tight ts o = Written tight (drop a bs) ts o

abbrev pub Within : List ℕ → ℕ → ℕ → Type 0
Within bs a e = (a < e) × (e ≤ length bs)

abbrev pub NameIs : Bool → List ℕ → ℕ → Option (NameRun × ℕ) → Type 0
NameIs tight bs a None = (n o : List ℕ) → Stands tight (drop a bs) (named n) o → ⊥
NameIs tight bs a (Some (n, e)) = Within bs a e × Stands tight (drop a bs) (named n.bytes.now) (drop e bs)

abbrev pub CaseAt : {T : Type 0} → (T → List ℕ) → Bool → List ℕ → ℕ → Option (T × ℕ) → Type 0
CaseAt {T} w tight bs a None = (x : T) (o : List ℕ) → Stands tight (drop a bs) (named (w x)) o → ⊥
CaseAt {T} w tight bs a (Some (x, e)) = Within bs a e × Stands tight (drop a bs) (named (w x)) (drop e bs)

abbrev pub HeadAt : List ℕ → ℕ → Option (Head × ℕ) → Type 0
HeadAt bs a r = CaseAt head_text true bs a r

abbrev pub CloseAt : List ℕ → ℕ → Option ℕ → Type 0
CloseAt bs a None = (o : List ℕ) → Stands false (drop a bs) closes o → ⊥
CloseAt bs a (Some e) = Within bs a e × Stands false (drop a bs) closes (drop e bs)

abbrev pub ExprAt : Bool → List ℕ → ℕ → ℕ → Result ℕ NotForm → Type 0
ExprAt tight bs a d (Err x) = (f : Form) (ts : List Token) (o : List ℕ) → Fine f d → Left bs a tight (words f ts) o → ⊥
ExprAt tight bs a d (Ok e) =
    (f : Form) × Fine f d × Within bs a e
    × ((ts : List Token) (o : List ℕ) → Left bs e false ts o → Left bs a tight (words f ts) o)
    × ((g : Form) (ts : List Token) (o : List ℕ) → Fine g d → Left bs a tight (words g ts) o → (g ≡ f) × Left bs e false ts o)

abbrev pub GroupAt : List ℕ → ℕ → ℕ → Result ℕ NotForm → Type 0
GroupAt bs a d (Err x) =
    (h : Head) (f : Form) (c : Chain) (ts : List Token) (o : List ℕ) → Fine (group h f c) d → Left bs a true (named (head_text h) ∷ words f (chain c ts)) o → ⊥
GroupAt bs a d (Ok e) =
    (h : Head) × (f : Form) × (c : Chain) × Fine (group h f c) d × Within bs a e
    × ((ts : List Token) (o : List ℕ) → Left bs e false ts o → Left bs a true (named (head_text h) ∷ words f (chain c ts)) o)
    × ((k : Head) (g : Form) (b : Chain) (ts : List Token) (o : List ℕ) → Fine (group k g b) d → Left bs a true (named (head_text k) ∷ words g (chain b ts)) o
    → (group k g b ≡ group h f c) × Left bs e false ts o)

abbrev pub MembersAt : List ℕ → ℕ → ℕ → ℕ → Result ℕ NotForm → Type 0
MembersAt bs a d n (Err x) = (c : Chain) (ts : List Token) (o : List ℕ) → Fines c d n → Left bs a false (chain c ts) o → ⊥
MembersAt bs a d n (Ok e) =
    (c : Chain) × Fines c d n × Within bs a e
    × ((ts : List Token) (o : List ℕ) → Left bs e false ts o → Left bs a false (chain c ts) o)
    × ((b : Chain) (ts : List Token) (o : List ℕ) → Fines b d n → Left bs a false (chain b ts) o → (b ≡ c) × Left bs e false ts o)
