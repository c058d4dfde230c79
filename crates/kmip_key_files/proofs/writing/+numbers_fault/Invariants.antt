use Rattle.std.proofs.Common.{length}
use Rattle.kmip_key_files.proofs.writing.+numbers_fault.Given as goal

abbrev pub decreases-numbers_fault : goal.decreases-numbers_fault
decreases-numbers_fault l = length l.numbers.now
