use Rattle.std.proofs.Common.{◌≡◌, true, drop, sym, subst}
use Rattle.text.specs.declared.line.Line.{Line}
use Rattle.text.specs.declared.word.Next.{Next}
use Rattle.text.specs.declared.word.Word.TheVariants.{Open}
use Rattle.text.specs.Files.{bytes_of}
use Rattle.text.specs.Words.{opens, token_of, Stands}
use Rattle.text.proofs.Tokens.{token_open}
use Rattle.forms.specs.Tails.{ItemOf}
use Rattle.forms.proofs.Steps.{stands_only}
use Rattle.forms.proofs.Saying.{no_bracket, other_head, an_event, a_rule}
use Rattle.forms.proofs.entry.item_of.Goals as goal

opened : (l : Line) (x : Next) → x.word ≡ Open → Stands true (bytes_of l) (token_of x.word) (drop x.end l.text.now) → Stands true (bytes_of l) opens (drop x.end l.text.now)
opened l x is stands = subst (λ w. Stands true (bytes_of l) (token_of w) (drop x.end l.text.now)) is stands

pub returns-in_err-first : goal.returns-in_err-first
returns-in_err-first c = subst (ItemOf c.args.line) (sym c.from_residual.ensures) (no_bracket c.args.line (λ o stands. c.in_err-first.ensures.word opens o stands))

pub returns-in_default : goal.returns-in_default
returns-in_default c =
    let x = c.in_ok-first.first in
    no_bracket c.args.line (λ o stands. c.in_default.not-Open (token_open x.word (stands_only true (bytes_of c.args.line) (token_of x.word) opens (drop x.end c.args.line.text.now) o c.in_ok-first.ensures.word.2 stands).0))

pub returns-in_ok-event_at : goal.returns-in_ok-event_at
returns-in_ok-event_at c =
    an_event c.args.line _ (opened c.args.line c.in_ok-first.first c.in-Open.is c.in_ok-first.ensures.word.2) _ _ c.in_ok-head.ensures.1 c.if-is_word.ensures c.in_ok-event_at.field-0 c.in_ok-event_at.ensures

pub returns-in_ok-rule_at : goal.returns-in_ok-rule_at
returns-in_ok-rule_at c =
    a_rule c.args.line _ (opened c.args.line c.in_ok-first.first c.in-Open.is c.in_ok-first.ensures.word.2) _ _ c.in_ok-head.ensures.1 c.if-is_word-2.ensures c.in_ok-rule_at.field-0 c.in_ok-rule_at.ensures

pub returns-else-is_word-2 : goal.returns-else-is_word-2
returns-else-is_word-2 c =
    other_head c.args.line _ (opened c.args.line c.in_ok-first.first c.in-Open.is c.in_ok-first.ensures.word.2) _ _ c.in_ok-head.ensures.1 c.if-is_word.ensures c.if-is_word-2.ensures
