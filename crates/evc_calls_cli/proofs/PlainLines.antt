-- The plainest command lines, by computing what clap makes of them.
use Rattle.std.proofs.Common.{refl}
use Rattle.clap.proofs.OnLiterals.{clap_on_literals}
use Rattle.evc_calls_cli.specs.CommandLine.{ReadsPlainLines}

pub plain_lines_are_read : ReadsPlainLines
unfolding clap_on_literals
plain_lines_are_read = record {
  check = λ program. record { right = refl; action_is = refl; file_is = refl };
  watch = λ program. record { right = refl; action_is = refl; file_is = refl };
  of = λ program. record { right = refl; action_is = refl; file_is = refl };
  trace = λ program. record { right = refl; action_is = refl; file_is = refl };
  check_file = λ program. record { right = refl; action_is = refl; file_is = refl };
  watch_file = λ program. record { right = refl; action_is = refl; file_is = refl };
  of_file = λ program. record { right = refl; action_is = refl; file_is = refl };
  trace_file = λ program. record { right = refl; action_is = refl; file_is = refl };
  help = λ program. refl;
  version = λ program. refl;
  short_version = λ program. refl;
  none = λ program. refl;
  unknown = λ program. refl;
  second = λ program. refl;
}
