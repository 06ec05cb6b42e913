use Rattle.std.proofs.Common.{◌∙◌, refl, sym, ap, subst, Some}
use Rattle.std.specs.Prelude.{IsSome}
use Rattle.vol_state.specs.Hints.{KeepsBut, Leads, head_of}
use Rattle.vol_state.proofs.Chains.{leads_push, keeps_push, leads_head, leads_redirected, keeps_redirected, head_some}
use Rattle.vol_state.proofs.hints.put_hint.Goals as goal

pub returns-in_default-clause-there : goal.returns-in_default-clause-there
returns-in_default-clause-there c = subst (λ ls. Leads ls c.args.key c.args.fid) (sym c.add.ensures) (leads_push c.args.hints.now.links _)

pub returns-in_default-clause-kept : goal.returns-in_default-clause-kept
returns-in_default-clause-kept c = subst (KeepsBut c.args.keyed c.args.key c.args.hints.now.links) (sym c.add.ensures) (keeps_push c.args.keyed c.args.key c.args.hints.now.links _)

pub returns-then-head-fid-clause-there : goal.returns-then-head-fid-clause-there
returns-then-head-fid-clause-there c = leads_head c.args.key c.args.fid c.args.hints.now.links (sym c.head.ensures ∙ c.in-Some.is ∙ ap Some c.if-head-fid.true)

pub returns-then-keyed-clause-there : goal.returns-then-keyed-clause-there
returns-then-keyed-clause-there c = subst (λ ls. Leads ls c.args.key c.args.fid) (sym c.add-then-keyed.ensures) (leads_push c.args.hints.now.links _)

pub returns-then-keyed-clause-kept : goal.returns-then-keyed-clause-kept
returns-then-keyed-clause-kept c = subst (KeepsBut c.args.keyed c.args.key c.args.hints.now.links) (sym c.add-then-keyed.ensures) (keeps_push c.args.keyed c.args.key c.args.hints.now.links _)

pub returns-clause-there : goal.returns-clause-there
returns-clause-there c =
    let some : IsSome (Some c.in-Some.head) = refl in
    let there : IsSome (head_of c.args.key c.args.hints.now.links) = subst IsSome (sym (sym c.head.ensures ∙ c.in-Some.is)) some in
    subst (λ ls. Leads ls c.args.key c.args.fid) (sym c.redirect.ensures) (leads_redirected c.args.key c.args.fid c.args.hints.now.links (head_some c.args.key c.args.hints.now.links there))

pub returns-clause-kept : goal.returns-clause-kept
returns-clause-kept c =
    let some : IsSome (Some c.in-Some.head) = refl in
    let there : IsSome (head_of c.args.key c.args.hints.now.links) = subst IsSome (sym (sym c.head.ensures ∙ c.in-Some.is)) some in
    subst (KeepsBut c.args.keyed c.args.key c.args.hints.now.links) (sym c.redirect.ensures) (keeps_redirected c.args.keyed c.args.key c.args.fid c.args.hints.now.links c.if-keyed.false (head_some c.args.key c.args.hints.now.links there))
