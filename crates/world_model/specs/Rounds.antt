-- A round, in which a member pulls from another.
use Rattle.std.specs.Prelude.{◌≡◌, ◌⊎◌, ◌&&◌, not, ℕ, zero, suc, true, false, List, [], ◌∷◌, ◌++◌}
use Rattle.frs_base.specs.Options.{In}
use Rattle.frs_base.specs.declared.version.Gvsn.{Gvsn}
use Rattle.win_order.specs.declared.update.Update.{Update}
use Rattle.record_db.specs.Records.{Versions, Covered, IsBetter, IsHeldOrBeaten, IsRecord}
use Rattle.name_rules.specs.Tree.{is_file}
use Rattle.world_model.specs.World.{World, IsRecordOf}
use Rattle.world_model.specs.Events.{Step, SendVector, SendUpdate, Adopt, Finish}

-- the vector that was sent, what of it is still asked for, and the files that are still to be fetched
pub record Round : Type 0 where
  pub versions : Versions
  pub rest : Versions
  pub listed : List Update

-- the update beats the puller's record of its file, or there is none
abbrev pub IsWanted : World → ℕ → Update → Type 0
IsWanted w puller u = IsBetter (Covered w.all (w.at puller).known) u

-- each winner of the vector is still asked for, or listed, or held or beaten
pub record RoundIsTrue (w : World) (puller server : ℕ) (r : Round) : Type 0 where
  pub sent : In (record { from = server; versions = r.versions }) w.vectors
  pub each : (u : Update) → IsRecord w.all r.versions u → (r.rest u.gvsn ≡ true) ⊎ (In u r.listed ⊎ IsHeldOrBeaten (IsRecordOf w puller) u)
  pub listed : (u : Update) → In u r.listed → IsRecord w.all r.versions u

-- a vector is sent, and a round begins: what the puller doesn't cover of it is asked for
abbrev pub Polls : World → ℕ → ℕ → World → Round → Type 0
Polls w puller server new r = Step w server SendVector new
    × (r ≡ record { versions = (w.at server).known; rest = λ g. (w.at server).known g && not ((w.at puller).known g); listed = [] })

-- an update of a page is passed, listed, or sent and adopted
abbrev pub Treats : World → ℕ → ℕ → Update → List Update → World → List Update → Type 0
Treats w puller server u listed new more =
    ((IsWanted w puller u → ⊥) × (new ≡ w) × (more ≡ listed))
    ⊎ ((IsWanted w puller u × (is_file u ≡ true) × (new ≡ w) × (more ≡ listed ++ u ∷ []))
    ⊎ ((is_file u ≡ false) × (mid : World) × Step w server (SendUpdate u) mid × Step mid puller (Adopt u) new × (more ≡ listed)))

-- so are all of a page, in order
abbrev pub TreatsAll : World → ℕ → ℕ → List Update → List Update → World → List Update → Type 0
TreatsAll w puller server [] listed new more = (new ≡ w) × (more ≡ listed)
TreatsAll w puller server (u ∷ us) listed new more =
    (mid : World) × (between : List Update) × Treats w puller server u listed mid between × TreatsAll mid puller server us between new more

-- a page has some winners that are asked for, and the others are asked for next
pub record IsPage (w : World) (r : Round) (page : List Update) (rest : Versions) : Type 0 where
  pub winners : (u : Update) → In u page → IsRecord w.all r.versions u × (r.rest u.gvsn ≡ true)
  pub first : (u : Update) → IsRecord w.all r.versions u → r.rest u.gvsn ≡ true → In u page ⊎ (rest u.gvsn ≡ true)
  pub fewer : (g : Gvsn) → rest g ≡ true → r.rest g ≡ true

-- a page comes
abbrev pub Pages : World → ℕ → ℕ → Round → World → Round → Type 0
Pages w puller server r new after =
    (page : List Update) × IsPage w r page after.rest × TreatsAll w puller server page r.listed new after.listed × (after.versions ≡ r.versions)

-- the first listed file is passed, or the server's record of it is sent and adopted
abbrev pub Fetches : World → ℕ → ℕ → Round → World → Round → Type 0
Fetches w puller server r new after = (u : Update) × (more : List Update) × (r.listed ≡ u ∷ more) × (after ≡ record r { listed = more })
    × (((IsWanted w puller u → ⊥) × (new ≡ w))
    ⊎ ((v : Update) × (mid : World) × IsRecordOf w server v × (v.uid ≡ u.uid) × Step w server (SendUpdate v) mid × Step mid puller (Adopt v) new))

-- nothing is asked for, and nothing is listed
abbrev pub MayFinish : World → Round → Type 0
MayFinish w r = ((u : Update) → IsRecord w.all r.versions u → r.rest u.gvsn ≡ false) × (r.listed ≡ [])

-- an act of a round
abbrev pub GoesOn : World → ℕ → ℕ → Round → World → Round → Type 0
GoesOn w puller server r new after = Pages w puller server r new after ⊎ Fetches w puller server r new after

-- so many of them, one after the other
abbrev pub GoesOnBy : ℕ → World → ℕ → ℕ → Round → World → Round → Type 0
GoesOnBy zero w puller server r new after = (new ≡ w) × (after ≡ r)
GoesOnBy (suc acts) w puller server r new after =
    (mid : World) × (between : Round) × GoesOn w puller server r mid between × GoesOnBy acts mid puller server between new after

-- a whole round: it begins, goes on until it may be finished, and is finished
abbrev pub IsRound : World → ℕ → ℕ → World → Type 0
IsRound w puller server new =
    (sent : World) × (begun : Round) × (acts : ℕ) × (last : World) × (ended : Round)
    × Polls w puller server sent begun × GoesOnBy acts sent puller server begun last ended
    × MayFinish last ended × Step last puller (Finish ended.versions) new
