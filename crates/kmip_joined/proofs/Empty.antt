-- The link to a server with no objects, before any call.
use Rattle.std.proofs.Common.{◌≡◌, [], pos, refl, sym, subst, false}
use Rattle.kmip_store.specs.Plain.{PlainMemory}
use Rattle.kmip_server.specs.Link.{ServerLinkState}
use Rattle.kmip_server.specs.Split.{messages_in}
use Rattle.kmip_joined.specs.Reports.{IsJoined}

-- the link round a server with this maker
abbrev pub link_over : PlainMemory → ServerLinkState PlainMemory
link_over maker = record {
  server = record { objects = []; maker = maker; time = pos 0 };
  ever = [];
  pos = 0;
  sent = [];
  kept = [];
  faults = 0;
  starved = false;
}

joined_over : (maker : PlainMemory) → IsJoined (link_over maker)
unfolding messages_in
joined_over maker = record { is_open = record { fed = refl; sound = refl; whole = refl; tells = refl }; time = refl }

pub joined_new : (link : ServerLinkState PlainMemory) (maker : PlainMemory) → link ≡ link_over maker → IsJoined link
joined_new link maker is = subst (λ (l : ServerLinkState PlainMemory). IsJoined l) (sym is) (joined_over maker)
