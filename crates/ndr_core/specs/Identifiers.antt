-- UUIDs and context handles.
use Rattle.std.specs.Prelude.{ℕ, ◌<◌, ◌^◌, List}
use Rattle.std.specs.Int.{from_be_bytes, to_be_bytes, w32, w128}
use Rattle.uuid.specs.Parts.{swap_fields}
use Rattle.ndr_core.specs.Items.{◌⨾◌, Item, chunk, number, seen, together}
use Rattle.ndr_core.specs.declared.handle.ContextHandle.{ContextHandle}

-- a UUID by the bytes of its text: a number of four bytes, two of two bytes, each with its least byte first, and eight bytes, aligned to 4
abbrev pub uuid_item : Item (List ℕ)
uuid_item = seen swap_fields swap_fields (chunk 4 16)

-- a UUID by its 128-bit value
abbrev pub guid_item : Item ℕ
guid_item = seen (from_be_bytes w128) (to_be_bytes w128) uuid_item

-- attributes and a UUID
abbrev pub handle_fields : Item ContextHandle
handle_fields = seen (λ t. record { attributes = t.0; id = t.1 }) (λ h. (h.attributes, h.id)) (number w32 ⨾ guid_item)

-- a context handle
abbrev pub handle_item : Item ContextHandle
handle_item = together 4 handle_fields

-- the numbers of a handle have room
pub record IsHandle (h : ContextHandle) : Type 0 where
  pub attributes : h.attributes < 2 ^ 32
  pub id : h.id < 2 ^ 128
