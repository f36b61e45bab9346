-- How a command's work ends before anything is written.
use Rattle.std.specs.Prelude.{ℕ, Bool, true, false, List, ◌++◌, codes}
use Rattle.file_commands.specs.declared.exit.Exit.{Exit}
use Rattle.file_commands.specs.declared.exit.Exit.TheVariants.{Refused, Missing, Failed, Memory}

-- a file that is needed isn't there: the text names the path that was asked for
abbrev pub missing : List ℕ → Exit
missing path = Missing (codes "Missing " ++ path)

-- a further file has too many bytes
abbrev pub too_long : List ℕ → Exit
too_long path = Refused (codes "TooLong " ++ path)

-- a failed device and want of memory may come in place of any other answer, and say nothing of the input
abbrev pub is_free : Exit → Bool
is_free (Refused text) = false
is_free (Missing text) = false
is_free Failed = true
is_free Memory = true

-- the status of the program that ends so
abbrev pub status_of : Exit → ℕ
status_of (Refused text) = 65
status_of (Missing text) = 66
status_of Failed = 74
status_of Memory = 71

-- and its text
abbrev pub text_of : Exit → List ℕ
text_of (Refused text) = text
text_of (Missing text) = text
text_of Failed = codes "failed"
text_of Memory = codes "memory"
