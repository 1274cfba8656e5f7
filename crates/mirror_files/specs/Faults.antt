-- The fault of an export or an update for an error of its shelf.
use Rattle.mirror_folders.specs.declared.shelf.ShelfError.{ShelfError}
use Rattle.mirror_folders.specs.declared.shelf.ShelfError.TheVariants as shelf
use Rattle.mirror_files.specs.declared.export_fault.ExportFault.{ExportFault}
use Rattle.mirror_files.specs.declared.export_fault.ExportFault.TheVariants.{ShelfFault, OutOfMemory}
use Rattle.mirror_files.specs.declared.export_fault.UpdateFault.{UpdateFault}
use Rattle.mirror_files.specs.declared.export_fault.UpdateFault.TheVariants as update

-- a fault of the shelf as a fault of an export
abbrev pub of_shelf : ShelfError → ExportFault
of_shelf shelf.Failed = ShelfFault
of_shelf shelf.OutOfMemory = OutOfMemory

-- a fault of the shelf as a fault of an update
abbrev pub update_of_shelf : ShelfError → UpdateFault
update_of_shelf shelf.Failed = update.ShelfFault
update_of_shelf shelf.OutOfMemory = update.OutOfMemory
