-- What the calls of a buffer show, in words.
use Rattle.std.specs.Prelude.{ℕ, List}
use Rattle.calls_buffers.specs.declared.fault.Fault.{Fault}
use Rattle.calls_buffers.specs.declared.fault.Fault.TheVariants.{Unproduced, Overfull, Crowded}
use Rattle.calls_buffers.specs.declared.fault.Fault.TheVariants.{Overtaken, Passed, Squeezed}
use Rattle.calls_buffers.specs.declared.fault.Fault.TheVariants.{Overdue, Outrun}
use Rattle.calls_report.specs.Sites.{SiteModel}
use Rattle.calls_report.specs.Items.{unproduced_text, overfull_text, crowded_text, overtaken_text}
use Rattle.calls_report.specs.Items.{passed_text, squeezed_text, overdue_text}
use Rattle.calls_report.specs.Outruns.{outrun_text}

abbrev pub item_text : SiteModel → Fault → List ℕ
item_text s (Unproduced c taken put) = unproduced_text s c taken put
item_text s (Overfull c put taken) = overfull_text s c put taken
item_text s (Crowded c left pending) = crowded_text s c left pending
item_text s (Overtaken p c before later all) = overtaken_text s p c before later all
item_text s (Passed p c left pending) = passed_text s p c left pending
item_text s (Squeezed q p left pending) = squeezed_text s q p left pending
item_text s (Overdue bounds) = overdue_text s bounds.items
item_text s (Outrun flow steps clash) = outrun_text s flow steps.items clash
