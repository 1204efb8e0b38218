mod Even
mod Evens
mod Giving
mod Numbered
mod Places
mod Serving
mod Spelled
mod Words
