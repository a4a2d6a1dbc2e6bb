-- What is seen of files.
use Rattle.std.specs.Prelude.{Option}
use Rattle.kc_outside.specs.Files.{Files}
use Rattle.kc_flattened_store.specs.Seen.{seen_files as meant_files}
use Rattle.kc_plain_store.specs.Seen.{seen_files}

-- What each name stands for in each slot: in slot Dump a flattened file for the file that it means, and a compressed dump for the plain
-- core file that stands for it; each other file for itself. A dump that is refused stands for none.
abbrev pub shown_files : Option Files → Option Files
shown_files files = seen_files (meant_files files)
