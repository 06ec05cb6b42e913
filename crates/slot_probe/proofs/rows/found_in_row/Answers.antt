use Rattle.std.proofs.Common.{◌≡◌, ◌∙◌, ◌+◌, List, ℕ, sym, subst, take, drop}
use Rattle.frs_journal.proofs.Records.{slice_behind}
use Rattle.slot_probe.specs.Rows.{IsNoWord, SpellsWord}
use Rattle.slot_probe.proofs.Words.{no_first, no_second, no_words, words_at}
use Rattle.slot_probe.proofs.rows.found_in_row.Goals as goal

pub returns : goal.returns
returns c =
    let row = c.args.row.now in
    let at = c.in-Some.at in
    let first = rw c.in-Some-2.is at c.in_ok-a.ensures.some in
    let second = rw c.in-Some-3.is at c.in_ok-b.ensures.some in
    let P : List ℕ → Type 0 = λ l. SpellsWord l c.in-Some-3.b.items in
    record {
      first = take at row;
      second = drop (at + 1) row;
      a = c.in-Some-2.a.items;
      b = c.in-Some-3.b.items;
      words = words_at row at (sym c.place_of.ensures ∙ c.in-Some.is);
      spells_a = first;
      spells_b = subst P (slice_behind row (at + 1)) second;
      is_found = rw (c.as_slice.ensures.value, c.as_slice-2.ensures.value) at c.in_ok-probe.ensures;
    }

pub returns-in_default : goal.returns-in_default
returns-in_default c = no_words c.args.row.now (sym c.place_of.ensures ∙ c.in_default.is)

pub returns-in_default-2 : goal.returns-in_default-2
returns-in_default-2 c =
    let row = c.args.row.now in
    let at = c.in-Some.at in
    no_first row (take at row) (drop (at + 1) row) (words_at row at (sym c.place_of.ensures ∙ c.in-Some.is)) (rw c.in_default-2.is at c.in_ok-a.ensures.none)

pub returns-in_default-3 : goal.returns-in_default-3
returns-in_default-3 c =
    let row = c.args.row.now in
    let at = c.in-Some.at in
    no_second row (take at row) (drop (at + 1) row) (words_at row at (sym c.place_of.ensures ∙ c.in-Some.is)) (subst IsNoWord (slice_behind row (at + 1)) (rw c.in_default-3.is at c.in_ok-b.ensures.none))
