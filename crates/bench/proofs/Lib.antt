mod Unstuck
mod Spans
mod States
