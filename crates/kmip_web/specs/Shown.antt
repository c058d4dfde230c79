-- What the page gets in place of a length.
use Rattle.std.specs.Prelude.{ℕ, ◌+◌, ℤ, pos, negsuc, List, take, None, Result, Ok, Err, nat_lt, length, if◌then◌else◌}
use Rattle.kmip_wire.specs.declared.error.HeadError.{HeadError}
use Rattle.kmip_wire.specs.Heads.{head_says}
use Rattle.kmip_exports.specs.Exports.{not_a_message}

-- the code -2
abbrev pub not_a_text : ℤ
not_a_text = negsuc 1

-- how many bytes a message has by its head, the head counted
abbrev pub size_code : Result ℕ HeadError → ℤ
size_code (Ok n) = pos (n + 8)
size_code (Err error) = not_a_message

-- the same for bytes, which may be fewer than the eight of a head
abbrev pub frame_code : List ℕ → ℤ
frame_code bytes =
    if nat_lt (length bytes) 8 then not_a_message else size_code (head_says (take 8 bytes) None)
