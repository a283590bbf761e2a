-- The plainest command lines, by computing what clap makes of them.
use Rattle.std.proofs.Common.{refl}
use Rattle.clap.proofs.OnLiterals.{clap_on_literals}
use Rattle.evc_explain_cli.specs.CommandLine.{ReadsPlainLines}

pub plain_lines_are_read : ReadsPlainLines
unfolding clap_on_literals
plain_lines_are_read = record {
  none = λ program. record { right = refl; file_is = refl };
  file = λ program. record { right = refl; file_is = refl };
  help = λ program. refl;
  version = λ program. refl;
  short_version = λ program. refl;
  unknown = λ program. refl;
  second = λ program. refl;
}
