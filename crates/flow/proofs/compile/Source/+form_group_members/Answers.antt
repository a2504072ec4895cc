use Rattle.std.proofs.Common.{drop, subst, arith}
use Rattle.text.specs.Words.{token_of, Stands}
use Rattle.text.specs.Places.{PlacedAt}
use Rattle.forms.specs.Reads.{HeadAt}
use Rattle.flow.proofs.Building.{form_there, form_closed, plain_ready, plain_built, never_ready, never_built, open_ready, open_built, first_ready, others_ready, whole_group, member_ready, left_some, last_built, rest_ready, rest_built}
use Rattle.flow.proofs.compile.Source.+form_group_members.Goals as goal

pub form-unwrap-next-requires : goal.form-unwrap-next-requires
form-unwrap-next-requires t c = form_there c.args.self.names.now c.args.self.line.text.now c.args.at c.args.depth c.args.first c.args.tight c.args.self.line.number c.word_at.result c.word_at.ensures.word c.requires

pub form-unreachable-requires : goal.form-unreachable-requires
form-unreachable-requires t c =
    let bs = c.args.self.line.text.now in
    let e = c.unwrap-next.result.end in
    let w = subst (PlacedAt c.args.tight bs c.args.at c.args.self.line.number) c.unwrap-next.ensures c.word_at.ensures.word in
    form_closed c.args.self.names.now bs c.args.at c.args.depth c.args.first c.args.tight e (w.forth, w.within)
    (subst (λ x. Stands c.args.tight (drop c.args.at bs) (token_of x) (drop e bs)) c.in-Close.is w.stands) c.requires

pub form-atom-requires : goal.form-atom-requires
form-atom-requires t c =
    let bs = c.args.self.line.text.now in
    let e = c.unwrap-next.result.end in
    let w = subst (PlacedAt c.args.tight bs c.args.at c.args.self.line.number) c.unwrap-next.ensures c.word_at.ensures.word in
    let stands = subst (λ x. Stands c.args.tight (drop c.args.at bs) (token_of x) (drop e bs)) c.in-Name.is w.stands in
    (plain_ready c.args.self.names.now bs c.args.at c.args.depth c.args.first c.args.tight e (w.forth, w.within) c.in-Name.name.bytes.now stands c.requires).0

pub form-leaf-requires : goal.form-leaf-requires
form-leaf-requires t c =
    let bs = c.args.self.line.text.now in
    let e = c.unwrap-next.result.end in
    let w = subst (PlacedAt c.args.tight bs c.args.at c.args.self.line.number) c.unwrap-next.ensures c.word_at.ensures.word in
    let stands = subst (λ x. Stands c.args.tight (drop c.args.at bs) (token_of x) (drop e bs)) c.in-Name.is w.stands in
    (plain_ready c.args.self.names.now bs c.args.at c.args.depth c.args.first c.args.tight e (w.forth, w.within) c.in-Name.name.bytes.now stands c.requires).1

pub form-event_of-requires : goal.form-event_of-requires
form-event_of-requires t c =
    let bs = c.args.self.line.text.now in
    let e = c.unwrap-next.result.end in
    let w = subst (PlacedAt c.args.tight bs c.args.at c.args.self.line.number) c.unwrap-next.ensures c.word_at.ensures.word in
    let stands = subst (λ x. Stands c.args.tight (drop c.args.at bs) (token_of x) (drop e bs)) c.in-Never.is w.stands in
    (never_ready c.args.self.names.now bs c.args.at c.args.depth c.args.first c.args.tight e (w.forth, w.within) c.in-Never.name.bytes.now stands c.requires).0

pub form-leaf-requires-in-Never : goal.form-leaf-requires-in-Never
form-leaf-requires-in-Never t c =
    let bs = c.args.self.line.text.now in
    let e = c.unwrap-next.result.end in
    let w = subst (PlacedAt c.args.tight bs c.args.at c.args.self.line.number) c.unwrap-next.ensures c.word_at.ensures.word in
    let stands = subst (λ x. Stands c.args.tight (drop c.args.at bs) (token_of x) (drop e bs)) c.in-Never.is w.stands in
    (never_ready c.args.self.names.now bs c.args.at c.args.depth c.args.first c.args.tight e (w.forth, w.within) c.in-Never.name.bytes.now stands c.requires).1

pub form-group-requires : goal.form-group-requires
form-group-requires t c =
    let bs = c.args.self.line.text.now in
    let e = c.unwrap-next.result.end in
    let w = subst (PlacedAt c.args.tight bs c.args.at c.args.self.line.number) c.unwrap-next.ensures c.word_at.ensures.word in
    let stands = subst (λ x. Stands c.args.tight (drop c.args.at bs) (token_of x) (drop e bs)) c.in-Open.is w.stands in
    (omega arith, (open_ready c.args.self.names.now bs c.args.at c.args.depth c.args.first c.args.tight e (w.forth, w.within) stands c.requires))

pub form-returns-in-Name : goal.form-returns-in-Name
form-returns-in-Name t c =
    let bs = c.args.self.line.text.now in
    let e = c.unwrap-next.result.end in
    let w = subst (PlacedAt c.args.tight bs c.args.at c.args.self.line.number) c.unwrap-next.ensures c.word_at.ensures.word in
    let stands = subst (λ x. Stands c.args.tight (drop c.args.at bs) (token_of x) (drop e bs)) c.in-Name.is w.stands in
    plain_built c.args.self.names.now bs c.args.at c.args.depth c.args.first c.args.tight e (w.forth, w.within) c.in-Name.name.bytes.now stands c.atom.result c.leaf.result c.atom.ensures c.leaf.ensures

pub form-returns-in-Never : goal.form-returns-in-Never
form-returns-in-Never t c =
    let bs = c.args.self.line.text.now in
    let e = c.unwrap-next.result.end in
    let w = subst (PlacedAt c.args.tight bs c.args.at c.args.self.line.number) c.unwrap-next.ensures c.word_at.ensures.word in
    let stands = subst (λ x. Stands c.args.tight (drop c.args.at bs) (token_of x) (drop e bs)) c.in-Never.is w.stands in
    never_built c.args.self.names.now bs c.args.at c.args.depth c.args.first c.args.tight e (w.forth, w.within) c.in-Never.name.bytes.now stands c.event_of.result _ c.event_of.ensures c.leaf-in-Never.ensures

pub form-returns-in-Open : goal.form-returns-in-Open
form-returns-in-Open t c =
    let bs = c.args.self.line.text.now in
    let e = c.unwrap-next.result.end in
    let w = subst (PlacedAt c.args.tight bs c.args.at c.args.self.line.number) c.unwrap-next.ensures c.word_at.ensures.word in
    let stands = subst (λ x. Stands c.args.tight (drop c.args.at bs) (token_of x) (drop e bs)) c.in-Open.is w.stands in
    open_built c.args.self.names.now bs c.args.at c.args.depth c.args.first c.args.tight e (w.forth, w.within) stands c.group.result c.group.ensures

pub group-form-requires : goal.group-form-requires
group-form-requires t c =
    (omega arith, (first_ready c.args.self.names.now c.args.self.line.text.now c.args.at c.args.depth c.args.first c.unwrap-head.result.0 c.unwrap-head.result.1 (subst (HeadAt c.args.self.line.text.now c.args.at) c.unwrap-head.ensures c.head_at.ensures) c.requires))

pub group-members-requires : goal.group-members-requires
group-members-requires t c =
    (omega arith, (others_ready c.args.self.names.now c.args.self.line.text.now c.args.at c.args.depth c.args.first c.unwrap-head.result.0 c.unwrap-head.result.1 (subst (HeadAt c.args.self.line.text.now c.args.at) c.unwrap-head.ensures c.head_at.ensures) c.in_ok-one.one c.in_ok-one.ensures c.requires))

pub group-returns : goal.group-returns
group-returns t c =
    whole_group c.args.self.names.now c.args.self.line.text.now c.args.at c.args.depth c.args.first c.unwrap-head.result.0 c.unwrap-head.result.1 (subst (HeadAt c.args.self.line.text.now c.args.at) c.unwrap-head.ensures c.head_at.ensures) c.in_ok-one.one c.in_ok-one.ensures
    c.in_ok-others.others c.in_ok-others.ensures c.pair.result c.pair.ensures

pub members-form-requires : goal.members-form-requires
members-form-requires t c = (omega arith, (member_ready c.args.self.names.now c.args.self.line.text.now c.args.at c.args.depth c.args.first c.args.left c.requires))

pub members-overflow_sub-left : goal.members-overflow_sub-left
members-overflow_sub-left t c = let q = left_some c.args.self.names.now c.args.self.line.text.now c.args.at c.args.depth c.args.first c.args.left c.requires in omega arith

pub members-members-requires : goal.members-members-requires
members-members-requires t c =
    let q = left_some c.args.self.names.now c.args.self.line.text.now c.args.at c.args.depth c.args.first c.args.left c.requires in
    (omega arith, (rest_ready c.args.self.names.now c.args.self.line.text.now c.args.at c.args.depth c.args.first c.args.left c.in_ok-one.one c.in_ok-one.ensures c.in-None.ensures c.requires))

pub members-returns-in-Some : goal.members-returns-in-Some
members-returns-in-Some t c =
    last_built c.args.self.names.now c.args.self.line.text.now c.args.at c.args.depth c.args.first c.args.left c.in_ok-one.one c.in_ok-one.ensures c.in-Some.end c.in-Some.ensures c.args.head

pub members-returns-in_ok-others-in-None : goal.members-returns-in_ok-others-in-None
members-returns-in_ok-others-in-None t c =
    rest_built c.args.self.names.now c.args.self.line.text.now c.args.at c.args.depth c.args.first c.args.left c.in_ok-one.one c.in_ok-one.ensures c.in-None.ensures c.args.head
    c.in_ok-others-in-None.others c.in_ok-others-in-None.ensures c.pair.result c.pair.ensures
