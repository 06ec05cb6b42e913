use Rattle.std.proofs.Common.{◌≡◌, ◌∙◌, ◌-◌, List, ap, drop, length, of_calls, rules, take}
use Rattle.std.specs.Prelude.{MatchBool}
use Rattle.std.proofs.lemmas.Fn.{always_returns_same}
use Rattle.frs_base.specs.declared.version.Uid.{Uid}
use Rattle.name_rules.specs.declared.step.Step.TheVariants.{Make}
use Rattle.install_plan.specs.Agenda.{comes_before}
use Rattle.install_plan.specs.Done.{Done, Needs}
use Rattle.install_plan.proofs.Firsts.{by_calls, found_first, parted_in, makes}
use Rattle.install_plan.proofs.first.first_to_make.Goals as goal

pub returns : goal.returns
returns c =
    found_first c.args.volume.now.state c.args.book.now.state c.args.agenda.now c.requires Make makes uids c.partition_point-passed.result c.first_passing.result same
    (c.partition_point-passed.ensures.partitioned (λ uid. comes_before (Make uid) c.args.agenda.now.last) (always_returns_same _ _ _ (λ a r f called. search (rules, of_calls)))
    (parted_in c.args.volume.now.state c.args.book.now.state c.args.agenda.now c.requires Make makes uids same))
    (by_calls _ _ (λ uid b. MatchBool b (Needs c.args.volume.now.state c.args.book.now.state (Make uid)) (Done c.args.volume.now.state c.args.book.now.state (Make uid)))
    (take (length uids - c.partition_point-passed.result) (drop c.partition_point-passed.result uids)) c.first_passing.result c.first_passing.ensures (λ y b called. search (rules, of_calls)))
  where
    uids : List Uid
    uids = c.as_slice-uids.result.now

    same : uids ≡ c.args.agenda.now.uids
    same = c.as_slice-uids.ensures.value ∙ ap (λ a. a.uids) c.agenda.view_is
