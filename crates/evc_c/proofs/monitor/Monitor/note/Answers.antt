use Rattle.std.proofs.Common.{refl, ap, ◌∙◌, length, take}
use Rattle.evc_c.proofs.Taken.{said}
use Rattle.evc_c.proofs.monitor.Monitor.note.Goals as goal

pub returns : goal.returns
returns c =
    let note_text = c.copy_prefix.ensures.prefix ∙ ap (take
    (length c.args.room.now)) c.as_slice.ensures.value in (
      refl,
      said c.args.self.now c.in-Stopped.stop c.report_stop.result _
          (length c.args.room.now) c.new-note_text.result c.report_stop.new.notes c.new-bytes.result.items
          c.into_writer.result.now.items _
          c.in-Stopped.is c.report_stop.ensures.says c.report_stop.ensures.written
          c.new-note_text.ensures.value c.new-bytes.ensures c.into_writer.ensures.contents note_text,
      c.copy_prefix.ensures.within,
      c.copy_prefix.ensures.rest,
    )
