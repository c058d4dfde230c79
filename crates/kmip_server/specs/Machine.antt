-- What a server comes to that serves messages one after the other.
use Rattle.std.specs.Prelude.{ℕ, ℤ, List, [], ◌∷◌, ◌++◌, fold, Option, Some, None}
use Rattle.kmip_response_write.specs.Settled.{response_bytes}
use Rattle.kmip_store.specs.declared.object.Object.{Object}
use Rattle.kmip_store.specs.declared.maker.Asked.{Asked}
use Rattle.kmip_store.specs.declared.maker.Made.{Made}
use Rattle.std.specs.Option.{option_to_list}
use Rattle.kmip_server_core.specs.Served.{served, asks}

-- the result of serving messages
pub record Run : Type 0 where
  pub objects : List Object
  -- the bytes of the responses, one after the other; `None` once a response has no wire form
  pub ever : Option (List ℕ)
  -- the questions to the maker
  pub asked : List Asked
  -- the maker's answers that no question took yet
  pub given : List Made

abbrev pub first_for : Option Asked → List Made → Option Made
first_for None given = None
first_for (Some question) [] = None
first_for (Some question) (answer ∷ given) = Some answer

abbrev pub rest_for : Option Asked → List Made → List Made
rest_for None given = given
rest_for (Some question) [] = []
rest_for (Some question) (answer ∷ given) = given

abbrev pub then_bytes : Option (List ℕ) → Option (List ℕ) → Option (List ℕ)
then_bytes (Some ever) (Some bytes) = Some (ever ++ bytes)
then_bytes ever bytes = None

-- serving one message more
unfoldable pub serve : ℤ → Run → List ℕ → Run
serve time run b =
    let s = served run.objects b (first_for (asks run.objects b) run.given) time in
    record {
      objects = s.objects;
      ever = then_bytes run.ever (response_bytes s.message);
      asked = run.asked ++ option_to_list (asks run.objects b);
      given = rest_for (asks run.objects b) run.given;
    }

abbrev pub fresh : List Made → Run
fresh given = record { objects = []; ever = Some []; asked = []; given = given }

-- serving these messages with these answers of the maker, from an empty store
unfoldable pub run_of : ℤ → List Made → List (List ℕ) → Run
run_of time given messages = fold (serve time) (fresh given) messages
