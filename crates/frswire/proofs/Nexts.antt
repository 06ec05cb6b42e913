-- What stands at the front of bytes, from the row at its first line feed.
use Rattle.std.proofs.Common.{◌≡◌, ◌∙◌, ℕ, ◌+◌, List, [], ◌∷◌, ◌++◌, length, take, drop, refl, sym, ap, subst, append_assoc, arith, inl}
use Rattle.frswire.specs.Rows.{HasNoLineFeed}
use Rattle.frswire.specs.Steps.{IsAt, IsNext}
use Rattle.frswire.specs.declared.rows.Found.{Found}
use Rattle.frswire.specs.declared.rows.Found.TheVariants as founds
use Rattle.frswire.proofs.Feeds.{FeedsAt}

pub is_next : (next : Found) (bytes row : List ℕ) (at : ℕ) → FeedsAt bytes at → row ≡ take at bytes → IsAt next row → IsNext next bytes
is_next (founds.Row said size) bytes row at feeds is (answered, size_is) =
    let end : at + 1 ≡ size = omega (arith, size_is, feeds.size, ap length is) in (
      row,
      size_is,
      feeds.parts ∙ ap (λ r. r ++ 10 ∷ drop (at + 1) bytes) (sym is) ∙ ap (λ k. row ++ 10 ∷ drop k bytes) end ∙ sym (append_assoc row (10 ∷ []) (drop size bytes)),
      answered,
    )
is_next founds.Nothing bytes row at feeds is none = absurd none
is_next founds.Bad bytes row at feeds is (one, none) =
    (row, 10 ∷ drop (at + 1) bytes, feeds.parts ∙ ap (λ r. r ++ 10 ∷ drop (at + 1) bytes) (sym is), (one, inl (drop (at + 1) bytes, refl, none)))
is_next founds.Long bytes row at feeds is long =
    (row, 10 ∷ drop (at + 1) bytes, feeds.parts ∙ ap (λ r. r ++ 10 ∷ drop (at + 1) bytes) (sym is), subst HasNoLineFeed (sym is) feeds.lacks, long)
