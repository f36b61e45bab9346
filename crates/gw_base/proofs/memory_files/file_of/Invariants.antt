-- what is left of the files has the same first file of that name
use Rattle.std.proofs.Common.{◌≡◌, drop}
use Rattle.gw_base.specs.Directory.{bytes_of}
use Rattle.gw_base.proofs.memory_files.file_of.Given as goal

abbrev pub invariant-loop-held : goal.invariant-loop-held
invariant-loop-held l = bytes_of (drop l.held-index l.files) l.name ≡ bytes_of l.files l.name
