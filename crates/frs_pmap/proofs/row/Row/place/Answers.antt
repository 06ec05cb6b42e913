use Rattle.std.proofs.Common.{◌∙◌, ap, sym, length, arith, subst}
use Rattle.std.specs.List.{prefix_len}
use Rattle.std.proofs.lemmas.List.{length-map}
use Rattle.frs_pmap.specs.Entries.{IsRising, is_upto, seen, seen_one}
use Rattle.frs_pmap.proofs.Places.{place_seen, rising_seen}
use Rattle.frs_pmap.proofs.row.Row.place.Goals as goal

pub place-requires : goal.place-requires
place-requires g c = rising_seen g.K.Ord.cmp c.as_slice.result.now (subst (IsRising g.K.Ord.cmp) (sym (ap seen c.as_slice.ensures.value ∙ c.self.view_is)) c.requires)

pub returns-clause-place : goal.returns-clause-place
returns-clause-place g c =
    c.place.ensures.place ∙ sym (place_seen g.K.Ord.cmp c.args.key.now c.as_slice.result.now)
    ∙ ap (prefix_len (is_upto g.K.Ord.cmp c.args.key.now)) (ap seen c.as_slice.ensures.value ∙ c.self.view_is)

pub returns-clause-within : goal.returns-clause-within
returns-clause-within g c = omega (arith, c.place.ensures.within, ap length c.as_slice.ensures.value, length-map c.self.inside.items.items seen_one, ap length c.self.view_is)
