-- The number that `get_one` reads in a text that clap accepted for `--turns`.
use Rattle.std.proofs.Common.{◌≡◌, ℕ, false, refl, Option, Some, None, Result, Ok, Err, arith}
use Rattle.std.specs.Prelude.{IfSome, unwrap_or}
use Rattle.std.specs.Str.Parse.{ParsesUnsigned}
use Rattle.clap.specs.Words.{Accepts, ReadsOne, Text}
use Rattle.evc_cli.specs.Turns.{IsInRange, IsTurnsOf, turns_parser}

module _ {E : Type 0} (gives : Text → Result ℕ E → Type 0) (parses : (t : Text) (r : Result ℕ E) → gives t r → ParsesUnsigned 64 10 t r) where
  given_read : (t : Text) (r : Option ℕ) → Accepts false turns_parser t → ReadsOne gives t r → IsTurnsOf (Some t) (unwrap_or r 10000) × IsInRange (unwrap_or r 10000)
  given_read t (Some n) pass read =
      let parsed = parses t (Ok n) read in
      ((pass.0, parsed.1), (rw parsed.1 pass.2, rw parsed.1 pass.3))
  given_read t None pass read = absurd (parses t (Err read.0) read.1 (pass.0, pass.1))

  -- if the text is read as it was given
  pub turns_read : (given read : Option Text) (r : Option ℕ) → read ≡ given → IfSome given (Accepts false turns_parser)
      → (read ≡ None → r ≡ None) → ((t : Text) → read ≡ Some t → ReadsOne gives t r)
      → IsTurnsOf given (unwrap_or r 10000) × IsInRange (unwrap_or r 10000)
  turns_read None read r same pass none some = rw (none same) (refl, (omega arith, omega arith))
  turns_read (Some t) read r same pass none some = given_read t r pass (some t same)
