use Rattle.std.proofs.Common.{◌∙◌, ◌++◌, inl, inr, length, slice_get, ap, arith}
use Rattle.std.proofs.lemmas.List.{append_assoc, length-map}
use Rattle.name_rules.proofs.Flags.{hangs_both, one_found, upto}
use Rattle.name_rules.proofs.Lists.{in_either}
use Rattle.name_rules.proofs.descent.Reached.reach.Goals as goal

pub loop-at-preserved : goal.loop-at-preserved
loop-at-preserved c =
    let (flagged, found, stay, (added, behind, each), hung) = c.loop-at.invariant in
    let long = length-map c.args.named.now (λ u. u.now) in
    let one = one_found (length c.args.named.now) c.loop-at.at c.loop-at.self.flags.items c.loop-at.self.queue.items c.find.new.self.flags.items c.find.new.self.queue.items
    flagged (omega (arith, c.loop-at-test.true, c.children-first.ensures.within)) c.in_ok-find.ensures.found in
    let (more, is, at) = one.more in (
      one.flagged,
      λ k low high. elim (upto k c.loop-at.at high) [
        | inl before ↦ one.stay k (found k low before)
        | inr same ↦ ap (λ j. slice_get c.find.new.self.flags.items j) same ∙ one.there
      ],
      λ k up. one.stay k (stay k up),
      (
        added ++ more,
        is ∙ ap (λ q. q ++ more) behind ∙ append_assoc _ added more,
        λ k h. elim (in_either added more k h) [
          | inl j ↦ each k j
          | inr j ↦ let same = at k j in (omega (arith, c.loop-at.auto.at), omega (arith, c.loop-at-test.true))
        ],
      ),
      hangs_both hung c.in_ok-find.ensures.above,
    )

pub returns-clause-more : goal.returns-clause-more
returns-clause-more c =
    let (flagged, found, stay, (added, behind, each), hung) = c.loop-at.invariant in record {
      added = added;
      behind = behind;
      each = λ k u h e. let (low, high) = each k h in c.children-first.ensures.each k u low high e;
      stay = stay;
    }
