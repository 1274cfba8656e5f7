-- The name of a place, by the source that it has. Only contracts of private functions cite this.
use Rattle.std.specs.Prelude.{◌++◌, false, string_bytes, true}
use Rattle.program_io.specs.Places.{PlaceName}
use Rattle.program_io.specs.declared.place.Kind.{Kind}
use Rattle.program_io.specs.declared.place.Kind.TheVariants.{Folder, Server}

-- that of its folder, or of the site of its server
abbrev pub kind_name : {A B C D E : Type 0} → Kind A B C D E → PlaceName
kind_name (Folder folder) = record { is_server = false; text = string_bytes folder.path }
kind_name (Server source) = record { is_server = true; text = source.site.host ++ source.site.prefix }
