-- How a file is spelled as bytes.
use Rattle.std.specs.Prelude.{◌≡◌, ℕ, List, [], ◌∷◌, ◌++◌, bit_and, length}
use Rattle.std.specs.Int.{w32, w64, to_le_bytes}
use Rattle.marshal_form.specs.declared.meta.Meta.{Meta}

-- the bit of a directory is clear
abbrev pub IsFile : Meta → Type 0
IsFile meta = bit_and meta.attributes 0x10 ≡ 0

-- what every form begins with
abbrev pub magic : List ℕ
magic = 0x46 ∷ 0x52 ∷ 0x53 ∷ 0x4D ∷ []

-- what stands before so many bytes of contents: the magic and the form's number; type, flags and length of the metadata, which are the attributes; type, flags and length of the contents
abbrev pub head_of : Meta → ℕ → List ℕ
head_of meta count =
    magic ++ to_le_bytes w32 1
    ++ to_le_bytes w32 1 ++ to_le_bytes w32 0 ++ to_le_bytes w64 4 ++ to_le_bytes w32 meta.attributes
    ++ to_le_bytes w32 2 ++ to_le_bytes w32 0 ++ to_le_bytes w64 count

-- the bytes of a file: the head, and its contents
abbrev pub spelling : Meta → List ℕ → List ℕ
spelling meta contents = head_of meta (length contents) ++ contents
