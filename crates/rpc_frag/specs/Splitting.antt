-- What calls of a splitter say.
use Rattle.std.specs.Prelude.{◌≡◌, ◌+◌, ℕ, List, Option, Some, None, Result, Ok, Err, drop}
use Rattle.std.specs.declared.alloc.AllocError.{AllocError}
use Rattle.ndr_core.specs.Cursor.{Cursor}
use Rattle.rpc_pdu.specs.declared.pdu.Pdu.{Pdu}
use Rattle.rpc_pdu.specs.declared.refusal.PduBad.{PduBad}
use Rattle.rpc_frag.specs.declared.refusal.StreamError.{StreamError}
use Rattle.rpc_frag.specs.declared.refusal.StreamError.TheVariants as errors
use Rattle.rpc_frag.specs.Streams.{Next, more}

-- a piece was added, or nothing changed
abbrev pub Pushes : Result (Unit {0}) AllocError → Cursor → List ℕ → Cursor → Type 0
Pushes (Ok done) old piece new = new ≡ more old piece
Pushes (Err e) old piece new = new ≡ old

-- a value was taken, or there is none yet, or there is none; only the first changes the place
abbrev pub Steps : Next Pdu PduBad → Result (Option Pdu) StreamError → Cursor → Cursor → Type 0
Steps next (Ok (Some p)) old new = (n : ℕ) × (next old.rest ≡ Ok (Some (p, n))) × (new ≡ record { at = old.at + n; rest = drop n old.rest })
Steps next (Ok None) old new = (next old.rest ≡ Ok None) × (new ≡ old)
Steps next (Err errors.Memory) old new = new ≡ old
Steps next (Err (errors.Bad bad)) old new = (bad.at ≡ old.at) × (next old.rest ≡ Err bad.why) × (new ≡ old)
