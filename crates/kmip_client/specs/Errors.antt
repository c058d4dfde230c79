-- The texts of errors.
use Rattle.std.specs.Prelude.{ℕ, List, [], ◌++◌, codes}
use Rattle.kmip_client.specs.declared.error.Error.{Error}
use Rattle.kmip_client.specs.declared.error.Error.TheVariants.{ConfigurationError, SerializeError, RequestWriteError, ResponseReadError, DeserializeError, ServerError, InternalError, ItemNotFound, Unknown, OutOfMemory}

abbrev pub kind_shown : Error → List ℕ
kind_shown (ConfigurationError text) = codes "Configuration error: "
kind_shown (SerializeError text) = codes "Serialize error: "
kind_shown (RequestWriteError text) = codes "Request send error: "
kind_shown (ResponseReadError text) = codes "Response read error: "
kind_shown (DeserializeError text) = codes "Deserialize error: "
kind_shown (ServerError text) = codes "Server error: "
kind_shown (InternalError text) = codes "Internal error: "
kind_shown (ItemNotFound text) = codes "Item not found: "
kind_shown (Unknown text) = codes "Unknown error: "
kind_shown OutOfMemory = codes "Out of memory"

abbrev pub error_text : Error → List ℕ
error_text (ConfigurationError text) = text
error_text (SerializeError text) = text
error_text (RequestWriteError text) = text
error_text (ResponseReadError text) = text
error_text (DeserializeError text) = text
error_text (ServerError text) = text
error_text (InternalError text) = text
error_text (ItemNotFound text) = text
error_text (Unknown text) = text
error_text OutOfMemory = []

-- what is printed
abbrev pub error_shown : Error → List ℕ
error_shown error = kind_shown error ++ error_text error
