-- The plainest command lines, by computing what clap finds in them.
use Rattle.std.proofs.Common.{refl}
use Rattle.clap.proofs.OnLiterals.{clap_on_literals}
use Rattle.evc_cli.specs.CommandLine.{ReadsPlainLines}

pub plain_lines_are_read : ReadsPlainLines
unfolding clap_on_literals
plain_lines_are_read = record {
  check = λ program. record { right = refl; task_is = refl; turns_are = tt; file_is = refl };
  audit = λ program. record { right = refl; task_is = refl; turns_are = tt; file_is = refl };
  upgrade = λ program. record { right = refl; task_is = refl; turns_are = tt; file_is = refl };
  sim = λ program. record { right = refl; task_is = refl; turns_are = tt; file_is = refl };
  run = λ program. record { right = refl; task_is = refl; turns_are = refl; file_is = refl };
  check_file = λ program. record { right = refl; task_is = refl; turns_are = tt; file_is = refl };
  audit_file = λ program. record { right = refl; task_is = refl; turns_are = tt; file_is = refl };
  upgrade_file = λ program. record { right = refl; task_is = refl; turns_are = tt; file_is = refl };
  sim_file = λ program. record { right = refl; task_is = refl; turns_are = tt; file_is = refl };
  run_file = λ program. record { right = refl; task_is = refl; turns_are = refl; file_is = refl };
  help = λ program. refl;
  version = λ program. refl;
  short_version = λ program. refl;
  none = λ program. refl;
  unknown = λ program. refl;
  second = λ program. refl;
}
