use Rattle.vol_state.proofs.Searches.{guessed}
use Rattle.vol_state.proofs.objects.index_of.Goals as goal

pub returns-then-objects-guess : goal.returns-then-objects-guess
returns-then-objects-guess c =
    guessed c.args.fid c.args.objects.now c.saturating_sub-guess.result c.index-objects-guess.result c.requires c.if-guess-objects.true c.if-objects-guess.true
