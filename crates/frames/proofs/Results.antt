-- Each public function's contract allows one result, whatever the arguments. Assumes nothing.
use contract.Lifetimes.{Lfts}
use denote.Ref.{Bor}
use mathlib.Core.List.{List}
use Prim.Native.Nat.{ℕ}
use Rattle.base.proofs.Results.{OneResult, one_result}
use Rattle.steps.specs.declared.Frame.{Frame}
use Rattle.steps.specs.declared.Step.{Step}
use Rattle.steps.specs.Fields.{frame_for}
use Rattle.frames.specs.Steps.{read_step, write_frame, write_step}
use Rattle.frames.proofs.read_step.Reads as read_step_reads
use Rattle.frames.proofs.read_frame.Reads as read_frame_reads
use Rattle.frames.proofs.frame_for.Reads as frame_for_reads
use Rattle.frames.proofs.write_frame.Reads as write_frame_reads
use Rattle.frames.proofs.write_step.Reads as write_step_reads

pub read_step_lem : (κs : Lfts 1) (line : Bor (List ℕ)) → OneResult (λ x. read_step_reads.Learnt κs (line, tt) x (line, tt))
read_step_lem κs line = one_result (read_step line.now)

pub read_frame_lem : (chars : List ℕ) → OneResult (λ x. read_frame_reads.Learnt tt (chars, tt) x (chars, tt))
read_frame_lem chars = one_result (read_step chars)

pub frame_for_lem : (s : Step) → OneResult (λ x. frame_for_reads.Learnt tt (s, tt) x (s, tt))
frame_for_lem s = one_result (frame_for s)

pub write_frame_lem : (f : Frame) → OneResult (λ x. write_frame_reads.Learnt tt (f, tt) x (f, tt))
write_frame_lem f = one_result (write_frame f)

pub write_step_lem : (s : Step) → OneResult (λ x. write_step_reads.Learnt tt (s, tt) x (s, tt))
write_step_lem s = one_result (write_step s)
