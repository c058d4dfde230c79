-- Calls of a store, one after the other.
use Rattle.std.specs.Prelude.{List, [], ◌∷◌, ◌++◌, ℕ, Option}
use Rattle.kmip_store.specs.declared.object.Object.{Object}
use Rattle.kmip_store.specs.declared.maker.Made.{Made}
use Rattle.kmip_store.specs.declared.call.Call.{Call}
use Rattle.kmip_store.specs.Steps.{Answer, Created, step}

-- a call, with the maker's answer for one that asks it
pub record AnsweredCall : Type 0 where
  pub call : Call
  pub made : Option Made

-- the objects that calls leave
abbrev pub objects_after : List Object → List AnsweredCall → List Object
objects_after objects [] = objects
objects_after objects (it ∷ calls) = objects_after (step objects it.call it.made).objects calls

-- the identifiers that an answer gives to new objects
abbrev pub new_identifiers : Answer → List (List ℕ)
new_identifiers (Created private public) = private ∷ public ∷ []
new_identifiers _ = []

-- the identifiers that calls give to new objects, in order
abbrev pub identifiers_given : List Object → List AnsweredCall → List (List ℕ)
identifiers_given objects [] = []
identifiers_given objects (it ∷ calls) =
    new_identifiers (step objects it.call it.made).answer
    ++ identifiers_given (step objects it.call it.made).objects calls
