use Rattle.tmc_world.proofs.Feeding.{not_memory, took_it}
use Rattle.tmc_world.proofs.line.feed.Goals as goal

pub returns-in-Ok : goal.returns-in-Ok
returns-in-Ok c = record {
  works = λ _. c.feed.ensures.only (not_memory c.feed.result c.in-Ok.is);
  shut = c.feed.ensures.shut;
  caught_up = λ _ wanting opened.
      c.feed.ensures.caught_up (took_it c.feed.result c.feed.new.self c.in-Ok.is (λ f. (c.feed.ensures.refused f).0) opened) wanting opened;
  memory = λ e. cc;
}
