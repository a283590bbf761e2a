-- The plainest command lines, by computing what clap finds in them.
use Rattle.std.proofs.Common.{refl}
use Rattle.clap.proofs.OnLiterals.{clap_on_literals}
use Rattle.evc_draw_cli.specs.CommandLine.{ReadsPlainLines}

pub plain_lines_are_read : ReadsPlainLines
unfolding clap_on_literals
plain_lines_are_read = record {
  none = λ program. record {
    right = refl;
    form_is = refl;
    file_is = refl;
    from_is = refl;
    to_is = refl;
    workers_are = refl;
    objects_are = refl;
  };
  file = λ program. record {
    right = refl;
    form_is = refl;
    file_is = refl;
    from_is = refl;
    to_is = refl;
    workers_are = refl;
    objects_are = refl;
  };
  text = λ program. record {
    right = refl;
    form_is = refl;
    file_is = refl;
    from_is = refl;
    to_is = refl;
    workers_are = refl;
    objects_are = refl;
  };
  html = λ program. record {
    right = refl;
    form_is = refl;
    file_is = refl;
    from_is = refl;
    to_is = refl;
    workers_are = refl;
    objects_are = refl;
  };
  bounds = λ program. record {
    right = refl;
    form_is = refl;
    file_is = refl;
    from_is = refl;
    to_is = refl;
    workers_are = refl;
    objects_are = refl;
  };
  names = λ program. record {
    right = refl;
    form_is = refl;
    file_is = refl;
    from_is = refl;
    to_is = refl;
    workers_are = refl;
    objects_are = refl;
  };
  help = λ program. refl;
  version = λ program. refl;
  short_version = λ program. refl;
  twice = λ program. refl;
  unknown = λ program. refl;
  second = λ program. refl;
}
