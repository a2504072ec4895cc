-- The lines that are printed of literals taken one by one. Assumes nothing.
--     settles l                      the status that the literal l gives its event
--     settled ss l                   the statuses ss after the literal l
--     statuses_after w               the statuses of events 0 to 11 after the literals w
--     marks_after xs w               the marks of the rules xs after the literals w
--     Wording                        how the lines of a report are worded: that of a literal, given its text, and the status word and the marks after it,
--                                    and that of a word that is refused, empty where none is printed
--     left_lines line names xs u v   the lines of the literals v, in turn, where the literals u came before them
--     left_line t n m                the line of a literal with the text t, where n is the status word after it, and m are the marks
--     by_name                        the wording in which the line of a literal shows it, and a word that is refused has no line
--     verdict_of b                   what is said of a rule, which is fulfilled if b
--     rule_line k b                  the line of rule k, which is fulfilled if b
--     rule_lines k bs                the lines of the rules from k on, which are fulfilled as bs says
--     Judged xs w bs                 bs says of each of the rules xs, in turn, whether w meets it
--     RuleLines xs w t               t are the lines of the rules xs, each fulfilled exactly if w meets it
use Rattle.std.specs.Prelude.{◌≡◌, ℕ, ◌+◌, ◌<◌, Bool, true, false, List, [], ◌∷◌, ◌++◌, length, replicate, codes, decimal, fold, slice_set}
use Rattle.std.specs.List.{slice_get}
use Rattle.algebra.specs.declared.literal.Literal.{Literal}
use Rattle.algebra.specs.declared.literal.Literal.TheVariants as literal
use Rattle.algebra.specs.declared.marks.Marks.{Marks}
use Rattle.algebra.specs.declared.expr.Expr.{Expr}
use Rattle.algebra.specs.Literals.{event_of}
use Rattle.algebra.specs.Left.{fresh_all, applied_all}
use Rattle.algebra.specs.Rules.{Answers}
use Rattle.sheet.specs.declared.status.Status.{Status}
use Rattle.sheet.specs.declared.status.Status.TheVariants as status
use Rattle.sheet.specs.Statuses.{packed}
use Rattle.report.specs.Texts.{text_of}

abbrev pub settles : Literal → Status
settles (literal.Happened e) = status.Happened
settles (literal.Never e) = status.Never

abbrev pub settled : List Status → Literal → List Status
settled ss l = slice_set ss (event_of l) (settles l)

abbrev pub statuses_after : List Literal → List Status
statuses_after w = fold settled (replicate 12 status.Open) w

abbrev pub marks_after : List Expr → List Literal → Marks
marks_after xs w = fold (applied_all xs) (fresh_all xs) w

pub record Wording : Type 0 where
  pub line : List ℕ → ℕ → Marks → List ℕ
  pub refused : List ℕ → List ℕ

abbrev pub left_lines : (List ℕ → ℕ → Marks → List ℕ) → List (List ℕ) → List Expr → List Literal → List Literal → List ℕ
left_lines line names xs u [] = []
left_lines line names xs u (l ∷ v) =
    line (text_of names l) (packed (statuses_after (u ++ (l ∷ [])))) (marks_after xs (u ++ (l ∷ []))) ++ left_lines line names xs (u ++ (l ∷ [])) v

abbrev pub left_line : List ℕ → ℕ → Marks → List ℕ
left_line t n m =
    codes "(left " ++ (t ++ (codes " " ++ (decimal n ++ (codes " " ++ (decimal m.met ++ (codes " " ++ (decimal m.struck ++ codes ")\n")))))))

abbrev pub by_name : Wording
by_name = record { line = left_line; refused = λ t. [] }

abbrev pub verdict_of : Bool → List ℕ
verdict_of true = codes "fulfilled"
verdict_of false = codes "unfulfilled"

abbrev pub rule_line : ℕ → Bool → List ℕ
rule_line k b = codes "(rule " ++ (decimal k ++ (codes " " ++ (verdict_of b ++ codes ")\n")))

abbrev pub rule_lines : ℕ → List Bool → List ℕ
rule_lines k [] = []
rule_lines k (b ∷ bs) = rule_line k b ++ rule_lines (k + 1) bs

abbrev pub Judged : List Expr → List Literal → List Bool → Type 0
Judged xs w bs = (length bs ≡ length xs) × ((k : ℕ) → k < length xs → Answers xs w k (slice_get bs k))

abbrev pub RuleLines : List Expr → List Literal → List ℕ → Type 0
RuleLines xs w t = (bs : List Bool) × Judged xs w bs × (t ≡ rule_lines 0 bs)
