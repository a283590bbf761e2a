-- Headers upgraded to version 2.
use Rattle.ec_heading.specs.declared.version.Version.TheVariants.{Two}
use Rattle.ec_heading.specs.HeadingModel.{HeadingModel}
use Rattle.ec_heading.specs.HeaderTree.{HeaderTree}

-- the same declarations under version 2
abbrev pub upgrade_heading : HeadingModel → HeadingModel
upgrade_heading h = record h { version = Two }

abbrev pub upgraded_outline : HeaderTree → HeaderTree
upgraded_outline o = record o { version = Two }
