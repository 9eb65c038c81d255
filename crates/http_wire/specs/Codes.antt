-- The status codes of refusals.
use Rattle.std.specs.Prelude.{ℕ}
use Rattle.http_wire.specs.declared.refusal.Refusal.{Refusal}
use Rattle.http_wire.specs.declared.refusal.Refusal.TheVariants as refusal

abbrev pub code_of : Refusal → ℕ
code_of refusal.BadRequest = 400
code_of refusal.NotFound = 404
code_of refusal.MethodNotAllowed = 405
code_of refusal.LengthRequired = 411
code_of refusal.ContentTooLarge = 413
code_of refusal.ServerError = 500
code_of refusal.NotImplemented = 501
code_of refusal.Unavailable = 503
