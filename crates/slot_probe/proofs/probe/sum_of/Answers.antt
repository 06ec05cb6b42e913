use Rattle.std.proofs.Common.{rules, ◌≡◌, ◌++◌, [], List, ℕ, length, take, get_or, append_assoc, subst, ap, ◌∙◌}
use Rattle.std.proofs.lemmas.List.{take_more, map-append, append-nil}
use Rattle.std.proofs.lemmas.List.Folds.{concat-append}
use Rattle.std.specs.Int.{to_le_bytes, w64}
use Rattle.sha1.specs.Sha1.{Holds}
use Rattle.slot_probe.specs.Found.{spelled}
use Rattle.slot_probe.proofs.probe.sum_of.Goals as goal

pub loop-string-preserved : goal.loop-string-preserved
loop-string-preserved c =
    let m : List ℕ = spelled (take c.loop-string.string-index c.args.strings.now) in
    let x : List ℕ = get_or c.args.strings.now c.loop-string.string-index c.string-item.result in
    let item : c.string-item.result ≡ get_or c.args.strings.now c.loop-string.string-index c.string-item.result = c.string-item.is in
    let same : c.as_slice-bytes.result.now ≡ get_or c.args.strings.now c.loop-string.string-index c.string-item.result = c.as_slice-bytes.ensures ∙ item in
    let counted : c.to_le_bytes.result ≡ to_le_bytes w64 (length (get_or c.args.strings.now c.loop-string.string-index c.string-item.result)) = c.to_le_bytes.ensures ∙ ap (λ (l : List ℕ). to_le_bytes w64 (length l)) same in
    let held = c.update-in-loop-string.ensures _ (c.update.ensures _ c.loop-string.invariant) in
    let P : List ℕ → Type 0 = λ l. Holds c.update-in-loop-string.new.self l in
    rw (take_more c.args.strings.now c.loop-string.string-index c.string-item.result c.loop-string-test.true, map-append, concat-append, append-nil)
    (subst P (append_assoc m c.to_le_bytes.result c.as_slice-bytes.result.now ∙ (λ k. m ++ (counted k ++ same k))) held)
