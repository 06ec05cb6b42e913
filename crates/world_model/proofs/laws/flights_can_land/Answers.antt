use Rattle.world_model.proofs.Lives.{flights_can_land}
use Rattle.world_model.proofs.laws.flights_can_land.Goals as goal

pub returns : goal.returns
returns c = flights_can_land
