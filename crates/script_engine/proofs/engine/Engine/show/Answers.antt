use Rattle.std.proofs.Common.{◌≡◌, ◌++◌, ◌∙◌, ap, sym}
use Rattle.std.specs.Prelude.{string_bytes}
use Rattle.script_engine.specs.Text.{Shows, records_text, vector_text}
use Rattle.script_engine.proofs.Spoken.{shown, unknown_printed, within_held}
use Rattle.script_engine.proofs.engine.Engine.show.Goals as goal

pub returns-in_default : goal.returns-in_default
returns-in_default c = λ s stands.
    unknown_printed c.args.self.now s c.args.name.now (λ d said after. Shows s d said × (after ≡ s)) c.unknown_text.result stands (sym c.place_of.ensures ∙ c.in_default.is) c.unknown_text.ensures

pub folder-requires : goal.folder-requires
folder-requires c = let (s, stands) = c.requires.scene in within_held c.args.self.now s c.args.name.now c.in-Some.at stands (sym c.place_of.ensures ∙ c.in-Some.is)

pub returns : goal.returns
returns c = λ s stands.
    let names = c.as_slice-names.ensures in
    let book = c.book-book.ensures.book in
    let vector = c.intervals.ensures.intervals ∙ c.vector.ensures.vector ∙ ap (λ b. b.vector) book in
    let first = c.in_ok-text.ensures ∙ (λ i. vector_text (names i) (vector i)) in
    let second = c.as_str.ensures.value ∙ c.in_ok-records.ensures ∙ (λ i. records_text (names i) (book i).records) in
    shown c.args.self.now s c.args.name.now c.in-Some.at c.folder.result.now (string_bytes c.push_str.new.self) stands (sym c.place_of.ensures ∙ c.in-Some.is) c.folder.ensures
    (c.in_ok-push_str.ensures.bytes ∙ (λ i. first i ++ second i))
