use Rattle.std.proofs.Common.{◌≡◌, ◌+◌, ◌∙◌, ap, sym, subst}
use Rattle.frs_base.specs.Identifiers.{database_of}
use Rattle.vol_state.specs.Maps.{maps_of}
use Rattle.script_engine.specs.Text.{Counts, count_text}
use Rattle.script_engine.specs.Trees.{IsTreeOf}
use Rattle.script_engine.proofs.Spoken.{counted, known_printed, unknown_printed, within_held}
use Rattle.script_engine.proofs.Texts.{said_of}
use Rattle.script_engine.proofs.engine.Engine.count.Goals as goal

pub returns-in_default : goal.returns-in_default
returns-in_default c = λ s stands.
    unknown_printed c.args.self.now s c.args.name.now (λ d said after. Counts s d said × (after ≡ s)) c.unknown_text.result stands (sym c.place_of.ensures ∙ c.in_default.is) c.unknown_text.ensures

pub folder-folder-requires : goal.folder-folder-requires
folder-folder-requires c = let (s, stands) = c.requires.scene in within_held c.args.self.now s c.args.name.now c.in-Some.at stands (sym c.place_of.ensures ∙ c.in-Some.is)

pub returns : goal.returns
returns c = λ s stands.
    let f = c.folder-folder.result.now in
    let d = database_of (c.in-Some.at + 1) in
    let book = c.book-book.ensures.book in
    let records = c.as_slice.ensures.value ∙ c.in_ok-records.ensures.rows ∙ ap (λ b. b.records) book in
    let vector = c.intervals.ensures.intervals ∙ c.vector.ensures.vector ∙ ap (λ b. b.vector) book in
    let rows = c.deref.ensures.value in
    let tree = subst (λ v. IsTreeOf (maps_of v) c.in_ok-rows.rows.items) c.volume.ensures.volume c.in_ok-rows.ensures in
    let same : count_text c.as_slice.result.now c.deref.result.now c.intervals.result.now ≡ count_text f.machine.book.records c.in_ok-rows.rows.items f.machine.book.vector =
    λ i. count_text (records i) (rows i) (vector i) in
    known_printed c.args.self.now s c.args.name.now (λ d said after. Counts s d said × (after ≡ s)) c.count_text.result c.in-Some.at stands (sym c.place_of.ensures ∙ c.in-Some.is)
    (said_of c.count_text.result (count_text c.as_slice.result.now c.deref.result.now c.intervals.result.now) (λ t. Counts s d t × (s ≡ s)) c.count_text.ensures
    (counted c.args.self.now s c.in-Some.at f c.in_ok-rows.rows.items _ stands c.folder-folder.ensures tree same))
