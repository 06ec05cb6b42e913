-- The page that a pull asks for.
use Rattle.std.proofs.Common.{◌≡◌, ◌∙◌, ◌&&◌, ℕ, Bool, true, false, not, List, refl, sym, ap}
use Rattle.version_vector.specs.declared.interval.Interval.{Interval}
use Rattle.version_vector.specs.Versions.{covers}
use Rattle.win_order.specs.declared.update.Update.{Update}
use Rattle.record_db.specs.Lists.{Lists}
use Rattle.pinned_pages.specs.Pages.{IsPage}
use Rattle.world_model.specs.World.{World, IsRecordOf}
use Rattle.script_engine.specs.Pulling.{IsAsked}
use Rattle.script_engine.specs.Pulls.{unknown}
use Rattle.script_engine.specs.Widening.{IsVectorOf}

unknown_not : (a b : Bool) → (a && not b) ≡ true → b ≡ false
unknown_not true false e = refl
unknown_not true true e = absurd (cc)
unknown_not false b e = absurd (cc)

unknown_is : (a b : Bool) → a ≡ true → b ≡ false → (a && not b) ≡ true
unknown_is a b e f = ap (λ x. x && not b) e ∙ ap not f

-- the records whose versions the server covers and the puller doesn't
pub asked_page : (w : World) (puller server : ℕ) (own sent : List Interval) (records page : List Update) → IsVectorOf (w.at puller).known own → IsVectorOf (w.at server).known sent → Lists (IsRecordOf w server) records
    → IsPage (unknown sent own) records page → IsAsked w puller server page
asked_page w puller server own sent records page mine theirs lists p = record {
  ordered = p.ordered;
  each = λ u here.
      let (there, asked) = p.each u here in
      (lists.each u there, sym (mine.covering u.gvsn) ∙ unknown_not (covers sent u.gvsn) (covers own u.gvsn) asked);
  whole = λ u wins free. p.whole u (lists.whole u wins) (unknown_is (covers sent u.gvsn) (covers own u.gvsn) (theirs.covering u.gvsn ∙ wins.among.1) (mine.covering u.gvsn ∙ free));
}
