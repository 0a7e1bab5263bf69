mod EachLemmas
mod ReasonLemmas
