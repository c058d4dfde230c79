-- What a client keeps of the room of its messages from call to call.
use Rattle.std.specs.Prelude.{◌≡◌, ◌≤◌, [], vec_capacity}
use Rattle.kmip_client.specs.declared.room.Room.{Room}

-- no bytes, and room for at most 65,536 bytes of a response and 32,768 of a request
pub record IsKept (room : Room) : Type 0 where
  pub request : room.request.bytes ≡ []
  pub spare : room.request.spare ≤ 32768
  pub taken : room.taken.items ≡ []
  pub capacity : vec_capacity room.taken ≤ 65536
