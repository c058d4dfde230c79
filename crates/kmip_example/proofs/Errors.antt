-- An error that is passed on.
use Rattle.std.proofs.Common.{◌≡◌, ap, Result, Ok, Err}
use Rattle.std.specs.Result.{IsErrAnd}

pub err_is : {A E : Type 0} (result : Result A E) (error : E) → IsErrAnd result (λ e. e ≡ error) → result ≡ Err error
err_is (Ok value) error so = absurd so
err_is (Err other) error so = ap Err so
