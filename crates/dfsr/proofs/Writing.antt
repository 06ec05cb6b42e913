-- What a sink took of the text of some first lines.
use Rattle.std.proofs.Common.{◌≡◌, ◌≤◌, inr, ◌+◌, ℕ, List, [], ◌∷◌, ◌++◌, length, take, refl, sym, ap, ◌∙◌, subst, append_assoc}
use Rattle.std.specs.Prelude.{All}
use Rattle.std.proofs.lemmas.List.{take_all}
use Rattle.std.specs.declared.option.Option.{Option}
use Rattle.frs_io.specs.Told.{HandsOn, Takes, TakesSome}
use Rattle.frs_io.proofs.Told.{Takes-TakesSome, Takes-trans, TakesSome-append, TakesSome-of_Takes}
use Rattle.script_lang.specs.declared.line.Line.{Line}
use Rattle.script_lang.specs.Grammar.{IsLine}
use Rattle.script_lang.specs.Script.{IsFirstBad}
use Rattle.script_engine.specs.Scene.{Scene, fresh_scene}
use Rattle.script_engine.specs.Text.{Does, Run}
use Rattle.script_engine.proofs.Runs.{beginnings_go_on, run_then_does}
use Rattle.dfsr.specs.Answers.{PrintsAll, PrintsSome, WritesSome, bad_line}

-- some of what the first lines print is some of what all print
pub some_of_all : (lines : List Line) (i : ℕ) (old new : Option (List ℕ)) (said : List ℕ) (s : Scene) → All IsLine lines → Run fresh_scene (take i lines) said s → TakesSome old new said → PrintsSome lines old new
some_of_all lines i old new said s valid run some =
    let (more, whole) = beginnings_go_on lines i said valid (s, run) in
    (said ++ more, whole, TakesSome-append old new said more some)

-- the front of what was said is some of it
pub front_is_some : (old new : Option (List ℕ)) (said front pending : List ℕ) → Takes old new front → said ≡ front ++ pending → TakesSome old new said
front_is_some old new said front pending takes split =
    subst (TakesSome old new) (sym split) (TakesSome-append old new front pending (TakesSome-of_Takes old new front takes))

-- the first lines, and one line more
pub next_line : (lines : List Line) (i : ℕ) (line : Line) (said : List ℕ) (w : Scene) (text : List ℕ) (new : Scene) → take (i + 1) lines ≡ take i lines ++ line ∷ []
    → Run fresh_scene (take i lines) said w → Does w line text new → Run fresh_scene (take (i + 1) lines) (said ++ text) new
next_line lines i line said w text new more run does =
    subst (λ ls. Run fresh_scene ls (said ++ text) new) (sym more) (run_then_does fresh_scene (take i lines) said w line text new run does)

-- what is said next is pending
pub pending_grows : (said front pending text grown : List ℕ) → said ≡ front ++ pending → grown ≡ pending ++ text → said ++ text ≡ front ++ grown
pending_grows said front pending text grown split more =
    ap (λ l. l ++ text) split ∙ append_assoc front pending text ∙ ap (λ l. front ++ l) (sym more)

-- a piece that wasn't wholly taken
pub piece_cut : (old mid new : Option (List ℕ)) (said front pending : List ℕ) → Takes old mid front → said ≡ front ++ pending → TakesSome mid new pending → TakesSome old new said
piece_cut old mid new said front pending takes split some =
    subst (TakesSome old new) (sym split) (Takes-TakesSome old mid new front pending takes some)

-- a piece that was handed on
pub piece_moved : (old mid new : Option (List ℕ)) (said front before after : List ℕ) → Takes old mid front → said ≡ front ++ before → HandsOn mid new before after
    → (more : List ℕ) × Takes old new more × (said ≡ more ++ after)
piece_moved old mid new said front before after takes split (moved, taken, parted) =
    (front ++ moved, Takes-trans old mid new front moved takes taken, split ∙ ap (λ l. front ++ l) parted ∙ sym (append_assoc front moved after))

-- what was pending at the end was taken too
pub all_taken : (lines : List Line) (i : ℕ) (old mid new : Option (List ℕ)) (said front pending : List ℕ) (w : Scene) → length lines ≤ i → Run fresh_scene (take i lines) said w
    → Takes old mid front → said ≡ front ++ pending → Takes mid new pending → PrintsAll lines old new
all_taken lines i old mid new said front pending w past run takes split taken =
    (said, (w, subst (λ ls. Run fresh_scene ls said w) (take_all i lines past) run), subst (Takes old new) (sym split) (Takes-trans old mid new front pending takes taken))

-- a beginning of the line that names the first bad row is one of what is to be written
pub bad_some : (bytes : List ℕ) (number : ℕ) (old new : Option (List ℕ)) → length bytes ≤ 16777216 → IsFirstBad bytes number → TakesSome old new (bad_line number) → WritesSome bytes old new
bad_some bytes number old new within first some = (bad_line number, inr (number, record { within = within; first = first }, refl), some)
