use Rattle.std.proofs.Common.{◌≡◌, ◌+◌, ◌∙◌, List, sym, subst}
use Rattle.std.specs.Prelude.{string_bytes}
use Rattle.frs_base.specs.Identifiers.{database_of}
use Rattle.vol_state.specs.Maps.{maps_of}
use Rattle.script_engine.specs.Text.{PrintsSums}
use Rattle.script_engine.specs.Trees.{IsTreeOf, Row, files_of, sums_text}
use Rattle.script_engine.proofs.Events.{ok_by}
use Rattle.script_engine.proofs.Spoken.{known_printed, summed, unknown_printed, within_held}
use Rattle.script_engine.proofs.engine.Engine.sums.Goals as goal

pub folder-requires : goal.folder-requires
folder-requires c = let (s, stands) = c.requires.scene in within_held c.args.self.now s c.args.name.now c.in-Some.at stands (sym c.place_of.ensures ∙ c.in-Some.is)

pub returns-in-None : goal.returns-in-None
returns-in-None c = λ s stands.
    unknown_printed c.args.self.now s c.args.name.now (λ d said after. PrintsSums s d said × (after ≡ s)) c.unknown_text.result stands (sym c.place_of.ensures ∙ c.in-None.is) c.unknown_text.ensures

pub returns-in-Some : goal.returns-in-Some
returns-in-Some c = λ s stands.
    let f = c.folder.result.now in
    known_printed c.args.self.now s c.args.name.now (λ d said after. PrintsSums s d said × (after ≡ s)) c.sums_text.result c.in-Some.at stands (sym c.place_of.ensures ∙ c.in-Some.is)
    (ok_by c.sums_text.result (λ text. (rows : List Row) × IsTreeOf (maps_of c.volume.result.now.state) rows × (string_bytes text ≡ sums_text (files_of rows))) (λ text. PrintsSums s (database_of (c.in-Some.at + 1)) (string_bytes text) × (s ≡ s)) c.sums_text.ensures
    (λ text (rows, tree, is). summed c.args.self.now s c.in-Some.at f (string_bytes text) stands c.folder.ensures (rows, subst (λ v. IsTreeOf (maps_of v) rows) c.volume.ensures.volume tree, is)))
