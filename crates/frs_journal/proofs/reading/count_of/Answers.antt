use Rattle.std.proofs.Common.{rules, ◌≡◌, get_or, Option, Some, None}
use Rattle.std.specs.Prelude.{IfNone}
use Rattle.std.proofs.lemmas.Option.{IfSome_then}
use Rattle.frs_journal.proofs.Records.{has_count, no_count_off, no_count_other, slice_behind}
use Rattle.frs_journal.proofs.reading.count_of.Goals as goal

none_then : {X P Q : Type 0} (r : Option X) → (P → Q) → IfNone r P → IfNone r Q
none_then None f h = f h
none_then (Some x) f h = tt

pub returns-in_default-clause-none : goal.returns-in_default-clause-none
returns-in_default-clause-none c = λ opens. no_count_off c.args.bytes.now _ (slice_behind c.args.bytes.now 26) c.in_default.ensures.none

pub returns-clause-some : goal.returns-clause-some
returns-clause-some c =
    let opens : get_or c.args.bytes.now 25 0 ≡ 1 = search rules in
    IfSome_then c.count_in.result c.count_in.ensures.some
    (λ saved counts. has_count c.args.bytes.now _ c.in-Some.payload.now saved opens (slice_behind c.args.bytes.now 26) c.in-Some.ensures.whole c.in-Some.ensures.inside counts)

pub returns-clause-none : goal.returns-clause-none
returns-clause-none c =
    none_then c.count_in.result
    (λ none opens. no_count_other c.args.bytes.now _ c.in-Some.payload.now (slice_behind c.args.bytes.now 26) c.in-Some.ensures.whole c.in-Some.ensures.short none) c.count_in.ensures.none
